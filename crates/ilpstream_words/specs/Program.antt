-- The program and its commands, as clap reads words for them.
use Rattle.std.specs.Prelude.{◌≡◌, ℕ, ◌^◌, ◌-◌, true, false, [], ◌∷◌, ◌++◌, codes, IfOk, Some}
use Rattle.clap.specs.Words.{App, Rule, Shape, Text, app_of, shape_of, with_subcommand}
use Rattle.clap.specs.Simple.{new_rule, new_shape}
use Rattle.clap.specs.declared.builder.action.ArgAction.TheVariants.{Set, SetTrue}
use Rattle.clap.specs.declared.builder.command.Command.TheViews.{out-Command}
use Rattle.clap.specs.declared.builder.value_parser.ValueParser.TheVariants.{Unsigned}
use Rattle.ilpstream_settings.specs.Settings.{most_money, most_workers}
use Rattle.ilpstream_words.specs.declared.draft.Draft.{Draft}

-- `--name` with one value
abbrev pub option_rule : Text → Rule
option_rule name = record (new_rule name) { long = Some name; value_names = 1; action = Some Set }

abbrev pub with_required : Rule → Rule
with_required r = record r { required = true }

abbrev pub with_default : Text → Rule → Rule
with_default value r = record r { defaults = value ∷ [] }

-- `--name` without a value
abbrev pub flag_rule : Text → Rule
flag_rule name = record (new_rule name) { long = Some name; action = Some SetTrue }

-- `--name` with a number from `least` to `most`
abbrev pub number_rule : Text → ℕ → ℕ → Rule
number_rule name least most = record (option_rule name) { parser = Some (Unsigned least most) }

abbrev pub with_rule : Shape → Rule → Shape
with_rule s r = record s { rules = s.rules ++ r ∷ [] }

-- a command has this shape, and no option of its is one of its subcommands too, if no allocation was refused
abbrev pub HasShape : Shape → Draft → Type 0
HasShape s d = IfOk d.command (λ c. (shape_of c ≡ s) × ((out-Command c).has_globals ≡ false))

-- a program with these commands, if no allocation was refused
abbrev pub IsApp : App → Draft → Type 0
IsApp a d = IfOk d.command (λ c. app_of c ≡ a)

-- a command of any shape becomes one of the shape that is made of it
abbrev pub Adds : (Shape → Shape) → Draft → Draft → Type 0
Adds change before after = (s : Shape) → HasShape s before → HasShape (change s) after

abbrev pub required_rule : Text → Rule
required_rule name = with_required (option_rule name)

-- the token and the secret, each given or in a file: exactly one of the two options of each is to be given (specs/Pairs.antt)
abbrev pub with_keys : Shape → Shape
with_keys s = with_rule (with_rule (with_rule (with_rule s (option_rule (codes "token"))) (option_rule (codes "token-file")))
    (option_rule (codes "secret"))) (option_rule (codes "secret-file"))

-- what both ends of a transfer need
abbrev pub with_ends : Shape → Shape
with_ends s = with_rule (with_rule (with_keys s) (required_rule (codes "address"))) (required_rule (codes "peer"))

-- the file of the totals
abbrev pub totals_rule : Rule
totals_rule = option_rule (codes "totals")

-- the file of the events
abbrev pub log_rule : Rule
log_rule = option_rule (codes "log")

-- what is reported on standard error
abbrev pub verbose_rule : Rule
verbose_rule = flag_rule (codes "verbose")

-- by what a command is asked things while it runs
abbrev pub control_rule : Rule
control_rule = option_rule (codes "control")

-- the file of a connector's table
abbrev pub table_rule : Rule
table_rule = option_rule (codes "table")

-- the file of the books
abbrev pub ledger_rule : Rule
ledger_rule = option_rule (codes "ledger")

-- whether they keep what proves claims: not without books (specs/Pairs.antt)
abbrev pub keep_rule : Rule
keep_rule = flag_rule (codes "keep-fulfillments")

-- a value that is known by its place
abbrev pub place_rule : Text → Rule
place_rule name = record (new_rule name) { value_names = 1; action = Some Set }

-- a number from `least` to `most` that is known by its place
abbrev pub number_place_rule : Text → ℕ → ℕ → Rule
number_place_rule name least most = record (place_rule name) { parser = Some (Unsigned least most) }

-- three to six values at the end, which help shows as n: after the first of them each word is one, also with a hyphen in front
abbrev pub last_rule : Text → (n : ℕ) → Rule
last_rule name n = record (new_rule name) {
  range = Some (record { start_inclusive = 3; end_inclusive = 6 });
  value_names = n;
  trailing_var_arg = true;
  action = Some Set;
}

-- the address at which requests are accepted
abbrev pub with_listen : Shape → Shape
with_listen s = with_rule s (required_rule (codes "listen"))

-- how much money is sent over it
abbrev pub with_money : Text → Shape → Shape
with_money name s = with_rule s (with_default (codes "0") (number_rule name 0 most_money))

-- how many seconds a receiver waits for a request, up to a day
abbrev pub patience_rule : Rule
patience_rule = number_rule (codes "patience") 1 86_400

abbrev pub with_workers : Shape → Shape
with_workers s = with_rule s (with_default (codes "4") (number_rule (codes "workers") 1 most_workers))

-- over how many seconds a sender's tries are spread, from ten up to a day
abbrev pub with_spread : Shape → Shape
with_spread s = with_rule s (with_default (codes "10") (number_rule (codes "patience") 10 86_400))

-- how many threads a sender has, and how long it tries on
abbrev pub with_tries : Shape → Shape
with_tries s = with_spread (with_workers s)

-- how many threads a receiver has, and how long it waits for a request
abbrev pub with_waiting : Shape → Shape
with_waiting s = with_rule (with_workers s) patience_rule

-- whom a sender sends to
abbrev pub with_peers : Shape → Shape
with_peers s = with_ends (with_rule s (required_rule (codes "to")))

-- the source of its random bytes, and what should arrive at least
abbrev pub with_sources : Shape → Shape
with_sources s = with_rule (with_rule s (with_default (codes "/dev/urandom") (option_rule (codes "random")))) (with_default (codes "1:1") (option_rule (codes "least")))

-- how many a connector accepts, or that it accepts any number: exactly one of the two is to be given (specs/Pairs.antt)
abbrev pub with_requests : Shape → Shape
with_requests s = with_rule (with_rule s (number_rule (codes "requests") 1 (2 ^ 31 - 1))) (flag_rule (codes "endless"))

-- the files of the totals and of the events
abbrev pub with_reports : Shape → Shape
with_reports s = with_rule (with_rule s totals_rule) log_rule

-- what a command that listens reports, and by what it is asked things
abbrev pub with_running : Shape → Shape
with_running s = with_rule (with_rule s verbose_rule) control_rule

-- the two addresses of a connector: at which it listens, and its own
abbrev pub with_place : Shape → Shape
with_place s = with_rule (with_listen s) (required_rule (codes "own"))

-- its books and its table, and what it has as any command that listens
abbrev pub with_files : Shape → Shape
with_files s = with_rule (with_running (with_rule (with_rule s ledger_rule) keep_rule)) table_rule

abbrev pub frames : Shape
frames = new_shape (codes "frames")

abbrev pub local : Shape
local = record (new_shape (codes "local")) {
  rules = with_default (codes "1") (number_rule (codes "hops") 0 8)
      ∷ with_default (codes "0") (number_rule (codes "lose") 0 1_000_000)
      ∷ with_default (codes "1") (number_rule (codes "streams") 1 32)
      ∷ totals_rule ∷ [];
}

abbrev pub send : Shape
send = record (new_shape (codes "send")) {
  rules = required_rule (codes "to")
      ∷ option_rule (codes "token")
      ∷ option_rule (codes "token-file")
      ∷ option_rule (codes "secret")
      ∷ option_rule (codes "secret-file")
      ∷ required_rule (codes "address")
      ∷ required_rule (codes "peer")
      ∷ with_default (codes "0") (number_rule (codes "money") 0 most_money)
      ∷ with_default (codes "4") (number_rule (codes "workers") 1 most_workers)
      ∷ with_default (codes "10") (number_rule (codes "patience") 10 86_400)
      ∷ with_default (codes "/dev/urandom") (option_rule (codes "random"))
      ∷ with_default (codes "1:1") (option_rule (codes "least"))
      ∷ totals_rule
      ∷ log_rule ∷ [];
}

abbrev pub receive : Shape
receive = record (new_shape (codes "receive")) {
  rules = required_rule (codes "listen")
      ∷ option_rule (codes "token")
      ∷ option_rule (codes "token-file")
      ∷ option_rule (codes "secret")
      ∷ option_rule (codes "secret-file")
      ∷ required_rule (codes "address")
      ∷ required_rule (codes "peer")
      ∷ with_default (codes "0") (number_rule (codes "receive-max") 0 most_money)
      ∷ with_default (codes "4") (number_rule (codes "workers") 1 most_workers)
      ∷ patience_rule
      ∷ totals_rule
      ∷ log_rule
      ∷ verbose_rule
      ∷ control_rule ∷ [];
}

abbrev pub connector : Shape
connector = record (new_shape (codes "connector")) {
  rules = required_rule (codes "listen")
      ∷ required_rule (codes "own")
      ∷ number_rule (codes "requests") 1 (2 ^ 31 - 1)
      ∷ flag_rule (codes "endless")
      ∷ with_default (codes "4") (number_rule (codes "workers") 1 most_workers)
      ∷ totals_rule
      ∷ log_rule
      ∷ ledger_rule
      ∷ keep_rule
      ∷ verbose_rule
      ∷ control_rule
      ∷ table_rule ∷ [];
}

-- FILE, and three to six words or none
abbrev pub ledger : Shape
ledger = record (new_shape (codes "ledger")) {
  rules = with_required (place_rule (codes "file"))
      ∷ last_rule (codes "payment") 3 ∷ [];
}

-- the number of a fault, which is a byte
abbrev pub explain : Shape
explain = record (new_shape (codes "explain")) {
  rules = with_required (number_place_rule (codes "number") 0 255) ∷ [];
}

-- the program without a command: it has a version
abbrev pub alone : App
alone = record { top = record (new_shape (codes "ilpstream")) { has_version = true }; subs = [] }

-- with the commands between machines
abbrev pub with_transfers : App → App
with_transfers a = with_subcommand (with_subcommand (with_subcommand a send) receive) connector

-- the program and its commands
abbrev pub program : App
program = record {
  top = record alone.top { is_leaf = false };
  subs = frames ∷ local ∷ send ∷ receive ∷ connector ∷ ledger ∷ explain ∷ [];
}
