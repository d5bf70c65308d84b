-- Worked examples, computed: they hold the definitions to the papers.
pub mod LayoutExamples
pub mod ComputedExamples
pub mod RefusalExamples
pub mod WeekExample
pub mod AskExamples
pub mod TotalExamples
pub mod PoolExamples
