-- What a row of events holds, and the gathered order.
pub mod Gathering
pub mod Row
