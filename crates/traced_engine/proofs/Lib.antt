pub mod RunAnswers
pub mod MineAnswers
