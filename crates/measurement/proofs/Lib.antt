-- Laws of what is measured and of `settle`, by what is found on the way.
mod MeasureLaws
mod ExtractLaws
