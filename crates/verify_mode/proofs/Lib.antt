-- The files of lemmas of verify_mode.
mod VerificationSteps
mod OneVerification
mod SomeVerification
