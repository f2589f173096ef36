mod Truth
mod Told
mod Iso
