mod AskLaws
mod SettleLaws
