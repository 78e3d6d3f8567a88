pub mod Laws
pub mod ReportText
pub mod StepText
pub mod Tokens
