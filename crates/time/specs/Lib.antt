-- What document 01 says under 'Units', but for the timers. To be believed: `Units`, `Numbers`. What follows from them: the laws and the examples.
pub mod Units
pub mod Numbers
pub mod Laws
pub mod WireLaws
pub mod ToldLaws
pub mod Examples
pub mod Lemmas
