-- Laws of the rules, by what is found on their way.
mod CaseLaws
mod HandleLaws
