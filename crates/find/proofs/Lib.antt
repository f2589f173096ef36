mod Bounds
mod Next
mod Heading
mod Printing
mod Listed
mod Parting
mod Pages
