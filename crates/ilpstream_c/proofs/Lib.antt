mod Addresses
mod Making
mod Parts
mod Made
