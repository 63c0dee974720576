-- What document 01 says under 'Sent messages'. To be believed: `Messages`, `Numbers`. What follows from them: the laws and the examples.
pub mod Messages
pub mod Numbers
pub mod Laws
pub mod CarriedLaws
pub mod SentLaws
pub mod Examples
