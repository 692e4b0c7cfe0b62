pub mod SampleTexts
