mod Tokens
mod Fates
mod Boards
