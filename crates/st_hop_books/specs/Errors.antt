-- The numbers of the refusals.
use Rattle.std.specs.Prelude.{ℕ, Option, None}
use Rattle.sqlite_trees.specs.declared.error.StoreError.{StoreError}
use Rattle.sqlite_trees.specs.declared.error.StoreError.TheVariants as stored
use Rattle.st_hop_books.specs.declared.error.BooksError.{BooksError}
use Rattle.st_hop_books.specs.declared.error.BooksError.TheVariants.{NoBooks, Taken, Device, Full, Damaged, Shut, NoAccount, TooMuch, NameTaken, BadName, NoMemory, TooLittle}

-- each refusal has its own number
abbrev pub number : BooksError → ℕ
number NoBooks = 110
number Taken = 111
number Device = 112
number Full = 113
number Damaged = 114
number Shut = 115
number NoAccount = 116
number TooMuch = 117
number NameTaken = 118
number BadName = 119
number NoMemory = 120
number TooLittle = 121

-- no refusal carries a further number
abbrev pub inner : BooksError → Option ℕ
inner e = None

-- as the store names it
abbrev pub told : StoreError → BooksError
told stored.OutOfMemory = NoMemory
told stored.Io = Device
told stored.Corrupt = Damaged
told stored.Full = Full
told stored.Broken = Shut
told stored.Unstorable = BadName
