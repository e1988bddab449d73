pub mod Answer
pub mod AnswerSheet
pub mod AnswerFound
pub mod Written
pub mod Page
