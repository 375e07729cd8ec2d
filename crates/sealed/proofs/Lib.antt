mod SealedBytes
mod WordLaws
