pub mod MineDevices
pub mod Priced
pub mod PriceKeys
pub mod PricedAnswers
pub mod Listed
pub mod MinesRead
pub mod SlopedAnswers
pub mod ValuedAnswers
