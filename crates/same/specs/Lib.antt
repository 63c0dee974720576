-- Nothing here has to be believed: `Same` is equality by `SameLaws`.
pub mod Same
pub mod SameLaws
