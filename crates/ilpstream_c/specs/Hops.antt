-- What a call on a handle of a hop answers and leaves.
use Rattle.std.specs.Prelude.{◌≡◌, ◌⊎◌, ◌&&◌, ℕ, ℤ, Bool, true, false, nat_eq, nat_lt, nat_le, List, [], ◌∷◌, length, map, take, drop, Option, Some, None, slice_index, MatchBool, Result, MatchResult}
use Rattle.st_oer.specs.Address.{is_address}
use Rattle.st_oer.specs.Ratios.{ratio}
use Rattle.st_hop.specs.declared.account.Account.{Account}
use Rattle.st_hop.specs.declared.ticket.Open.{Open}
use Rattle.st_hop.specs.Books.{AreBooks, restored}
use Rattle.st_hop.specs.Hop.{Way, held_of}
use Rattle.st_hop.specs.Settling.{is_booked}
use Rattle.st_hop.specs.Table.{is_table, new_hop}
use Rattle.host_objects.specs.Codes.{done, unknown, argument, onward}
use Rattle.host_objects.specs.Hops.{IsNewHop, IsSameHop, IsTicket, IsSettled, IsAbandoned, HasNoTicket, Arrives}
use Rattle.host_objects.specs.declared.object.Object.{Object}
use Rattle.host_objects.specs.declared.object.Object.TheVariants.{Hop}
use Rattle.host_objects.specs.declared.hop.HostHop.{HostHop}
use Rattle.host_objects.specs.declared.hop.Way.TheVariants.{Back, Onward}
use Rattle.ilpstream_c.specs.Handles.{Misused}
use Rattle.ilpstream_c.specs.declared.table.HostAccount.{HostAccount}
use Rattle.ilpstream_c.specs.declared.table.HostRoute.{HostRoute}
use Rattle.ilpstream_c.specs.declared.hop.HostArrived.{HostArrived}
use Rattle.ilpstream_c.specs.declared.hop.HostBooking.{HostBooking}
use Rattle.ilpstream_c.specs.declared.hop.HostBalances.{HostBalances}
use Rattle.st_hop.specs.Seen.{way_seen}
use Rattle.ilpstream_c.specs.declared.table.Table.{Table}

abbrev pub bad_table : ℕ
bad_table = 34

abbrev pub hop_no_memory : ℕ
hop_no_memory = 35

abbrev pub no_account : ℕ
no_account = 36

abbrev pub bad_books : ℕ
bad_books = 37

-- ---- a new hop

abbrev pub account_of : HostAccount → Account
account_of a = record { limit = a.limit; max_packet = a.max_packet }

-- the route whose prefix these bytes are
abbrev pub way_of : (prefix : List ℕ) → HostRoute → Way
way_of prefix r = record { prefix = prefix; account = r.account; rate = ratio r.num r.den }

-- the routes, whose prefixes follow each other in the text
abbrev pub ways_of : (text : List ℕ) → List HostRoute → List Way
ways_of text [] = []
ways_of text (r ∷ rs) = way_of (take r.prefix_len text) r ∷ ways_of (drop r.prefix_len text) rs

abbrev pub is_rate : HostRoute → Bool
is_rate r = nat_lt 0 r.num && nat_lt 0 r.den

-- the text is the prefixes, each of them an address, and no rate has a 0
abbrev pub are_routes : (text : List ℕ) → List HostRoute → Bool
are_routes text [] = nat_eq (length text) 0
are_routes text (r ∷ rs) = nat_le r.prefix_len (length text) && (is_address (take r.prefix_len text) && (is_rate r && are_routes (drop r.prefix_len text) rs))

-- memory is refused, or what is given does not fit
abbrev pub IsRefusedUnless : (fits : Bool) (code : ℕ) → Type 0
IsRefusedUnless fits code = (code ≡ hop_no_memory) ⊎ ((code ≡ argument) × (fits ≡ false))

-- the table of this address, these accounts and these routes
abbrev pub IsTableOf : (own : List ℕ) (accounts : List HostAccount) (text : List ℕ) (routes : List HostRoute) → Table → Type 0
IsTableOf own accounts text routes t =
    (are_routes text routes ≡ true)
    × ((t.own.now ≡ own) × ((t.accounts.items ≡ map account_of accounts) × (map way_seen t.routes.items ≡ ways_of text routes)))

-- the hop of this table, or why there is none
abbrev pub MakesHop : (own : List ℕ) (accounts : List HostAccount) (text : List ℕ) (routes : List HostRoute) → Result HostHop ℕ → Type 0
MakesHop own accounts text routes result = MatchResult result
    (λ h. (is_table own (map account_of accounts) (ways_of text routes) ≡ true)
    × ((are_routes text routes ≡ true) × IsNewHop (new_hop own (map account_of accounts) (ways_of text routes)) h))
    (λ code. (code ≡ hop_no_memory)
    ⊎ (((code ≡ argument) × (is_address own && are_routes text routes ≡ false))
    ⊎ ((code ≡ bad_table) × (is_table own (map account_of accounts) (ways_of text routes) ≡ false))))

-- a hop of this table is made, unless memory is refused; of a bad one none
abbrev pub IsHopMade : (own : List ℕ) (accounts : List HostAccount) (text : List ℕ) (routes : List HostRoute) (old new : Option Object) (code : ℕ) → Type 0
IsHopMade own accounts text routes None new code =
    ((code ≡ done) × ((is_table own (map account_of accounts) (ways_of text routes) ≡ true) × ((are_routes text routes ≡ true)
    × ((h : HostHop) × ((new ≡ Some (Hop h)) × IsNewHop (new_hop own (map account_of accounts) (ways_of text routes)) h)))))
    ⊎ (((code ≡ hop_no_memory) × (new ≡ None))
    ⊎ (((code ≡ argument) × ((is_address own && are_routes text routes ≡ false) × (new ≡ None)))
    ⊎ ((code ≡ bad_table) × ((is_table own (map account_of accounts) (ways_of text routes) ≡ false) × (new ≡ None)))))
IsHopMade own accounts text routes (Some o) new code = Misused (Some o) new code

-- ---- a hop with books

-- why there is none of this table with these books
abbrev pub WhyNoHop : (own : List ℕ) (accounts : List HostAccount) (text : List ℕ) (routes : List HostRoute) (claims dues : List ℕ) (code : ℕ) → Type 0
WhyNoHop own accounts text routes claims dues code =
    (code ≡ hop_no_memory)
    ⊎ (((code ≡ argument) × (is_address own && are_routes text routes ≡ false))
    ⊎ (((code ≡ bad_table) × (is_table own (map account_of accounts) (ways_of text routes) ≡ false))
    ⊎ ((code ≡ bad_books) × ((is_table own (map account_of accounts) (ways_of text routes) ≡ true) × (AreBooks (map account_of accounts) claims dues → ⊥)))))

-- the hop of this table that continues with these books, or why there is none
abbrev pub RestoresHop : (own : List ℕ) (accounts : List HostAccount) (text : List ℕ) (routes : List HostRoute)
    (claims dues : List ℕ) (next : ℕ) → Result HostHop ℕ → Type 0
RestoresHop own accounts text routes claims dues next result = MatchResult result
    (λ h. (are_routes text routes ≡ true)
    × (AreBooks (map account_of accounts) claims dues
    × IsNewHop (restored (new_hop own (map account_of accounts) (ways_of text routes)) claims dues next) h))
    (λ code. WhyNoHop own accounts text routes claims dues code)

-- the hop of this table that continues with these books is made, its tickets numbered from here on; or none is, and why
abbrev pub IsHopRestored : (own : List ℕ) (accounts : List HostAccount) (text : List ℕ) (routes : List HostRoute) (claims dues : List ℕ) (next : ℕ) (old new : Option Object) (code : ℕ) → Type 0
IsHopRestored own accounts text routes claims dues next None new code =
    ((code ≡ done) × ((are_routes text routes ≡ true) × (AreBooks (map account_of accounts) claims dues
    × ((h : HostHop) × ((new ≡ Some (Hop h)) × IsNewHop (restored (new_hop own (map account_of accounts) (ways_of text routes)) claims dues next) h)))))
    ⊎ (WhyNoHop own accounts text routes claims dues code × (new ≡ None))
IsHopRestored own accounts text routes claims dues next (Some o) new code = Misused (Some o) new code

-- ---- Prepares and their answers

abbrev pub HopArrives : (old new : HostHop) → (account : ℕ) (bytes : List ℕ) (now : ℤ) → (code : ℕ) → HostArrived → Type 0
HopArrives old new account bytes now code a = MatchBool (nat_lt account (length old.state.accounts))
    (((code ≡ done) × ((a.len ≡ length new.output.items) × Arrives old account bytes now Back new))
    ⊎ (((code ≡ onward) × ((a.len ≡ length new.output.items) × Arrives old account bytes now (Onward a.ticket a.account) new))
    ⊎ ((code ≡ hop_no_memory) × IsSameHop old new)))
    ((code ≡ no_account) × IsSameHop old new)

-- no open ticket has this number, and nothing changes
abbrev pub IsUnknownTicket : (old new : HostHop) → (ticket code : ℕ) → Type 0
IsUnknownTicket old new ticket code = (code ≡ unknown) × (HasNoTicket old.state old.tickets.items ticket × (new ≡ old))

-- a ticket of this number ends so, or there is none
abbrev pub Closes : (old new : HostHop) → (ticket : ℕ) (back : Option (List ℕ)) (now : ℤ) → (code len : ℕ) → Type 0
Closes old new ticket back now code len =
    ((code ≡ done) × ((len ≡ length new.output.items) × IsSettled old new ticket back now)) ⊎ IsUnknownTicket old new ticket code

-- the same, but memory may be refused
abbrev pub Settles : (old new : HostHop) → (ticket : ℕ) (bytes : List ℕ) (now : ℤ) → (code len : ℕ) → Type 0
Settles old new ticket bytes now code len = Closes old new ticket (Some bytes) now code len ⊎ ((code ≡ hop_no_memory) × (new ≡ old))

abbrev pub Abandons : (old new : HostHop) → (ticket code : ℕ) → Type 0
Abandons old new ticket code = ((code ≡ done) × IsAbandoned old new ticket) ⊎ IsUnknownTicket old new ticket code

-- ---- what a ticket would book

-- its claim and its due
abbrev pub IsBooking : Open → HostBooking → Type 0
IsBooking t b = (b.books ≡ 1) × ((b.payer ≡ t.incoming) × ((b.claim ≡ t.amount_in) × ((b.payee ≡ t.outgoing) × (b.due ≡ t.amount_out))))

abbrev pub IsNoBooking : HostBooking → Type 0
IsNoBooking b = (b.books ≡ 0) × ((b.payer ≡ 0) × ((b.claim ≡ 0) × ((b.payee ≡ 0) × (b.due ≡ 0))))

-- what the open ticket of this number books as it ends by these bytes; or there is none, or memory is refused
abbrev pub TellsBooking : (old new : HostHop) → (ticket : ℕ) (bytes : List ℕ) (now : ℤ) → (code : ℕ) → HostBooking → Type 0
TellsBooking old new ticket bytes now code b = (new ≡ old)
    × (((code ≡ done) × ((t : Open) × ((place : ℕ) × (IsTicket old.state old.tickets.items ticket place t × MatchBool (is_booked t (Some bytes) now) (IsBooking t b) (IsNoBooking b)))))
    ⊎ (((code ≡ unknown) × HasNoTicket old.state old.tickets.items ticket)
    ⊎ (code ≡ hop_no_memory)))

-- ---- balances

abbrev pub AreBalances : HostHop → (account : ℕ) → HostBalances → Type 0
AreBalances h account b = (b.claims ≡ slice_index h.state.claims account) × ((b.dues ≡ slice_index h.state.dues account) × (b.held ≡ held_of h.state account))

abbrev pub Balances : (old new : HostHop) → (account code : ℕ) → HostBalances → Type 0
Balances old new account code b = (new ≡ old) × MatchBool (nat_lt account (length old.state.accounts)) ((code ≡ done) × AreBalances old account b) (code ≡ no_account)
