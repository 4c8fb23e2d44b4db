pub mod InitCalls
pub mod CallSteps
