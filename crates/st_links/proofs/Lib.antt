mod HandedOut
