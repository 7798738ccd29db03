pub mod AllOut
pub mod UnderWay
