pub mod Cut
pub mod LockFreeAnswers
pub mod MineAnswers
