-- Document 01, 'Event log': the field at the front of some bytes. To be believed: `Fields`, with `Told`. What follows from it: its laws.
pub mod Told
pub mod Fields
pub mod FieldsLaws
