pub mod AmongLaws
