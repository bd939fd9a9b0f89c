-- From a text to an image and back: FaultLemmas has which faults a text has, TextLemmas, behind it, that a text is an image or has one fault, and
-- PrintLemmas that what is printed for an image describes it.
mod FaultLemmas
pub mod TextLemmas
pub mod PrintLemmas
