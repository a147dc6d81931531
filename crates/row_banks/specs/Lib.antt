pub mod Banks
pub mod Board
