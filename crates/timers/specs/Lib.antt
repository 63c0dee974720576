-- What document 01 says of timers under 'Units'. To be believed: `Timers`, `Numbers`. What follows from them: the laws and the examples.
pub mod Timers
pub mod Numbers
pub mod TimerLaws
