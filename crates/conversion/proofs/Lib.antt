mod Laws
mod Fitting
