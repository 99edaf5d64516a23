-- The chain of a world and its hops' tables.
use Rattle.std.proofs.Common.{◌≡◌, ℕ, zero, suc, ◌+◌, ◌<◌, ◌≤◌, Bool, true, false, List, [], ◌∷◌, ◌++◌, length, refl, sym, ap, ◌∙◌, arith, ◌&&◌, map, replicate, nat_le, take, get_or}
use Rattle.std.specs.FinMap as fmap
use Rattle.std.proofs.lemmas.List.{take_more, map_push, length-take-le, length-map, length-replicate}
use Rattle.std.proofs.lemmas.Bool.Decides.{nat_tests}
use Rattle.std.specs.List.{list_all}
use Rattle.st_oer.specs.Address.{is_address}
use Rattle.st_hop.specs.Table.{is_account, is_table}
use Rattle.st_sender.specs.Sending.{Config}
use Rattle.st_world.specs.Runs.{Table, is_lawful, is_chain, new_node, opening}
use Rattle.st_world_parts.specs.State.{World, Node, Party, empty_link}
use Rattle.st_world.specs.Places.{Links}
use Rattle.st_world.specs.Left.{Left, in_world, left_of, IsReached}
use Rattle.st_world.proofs.Meets.{Led, of_parts}
use Rattle.st_world.specs.Chains.{Terms, one_to_one, free_account, table_of, tables_from, chain_of, client_name, server_name}

pub client_named : is_address client_name ≡ true
unfolding is_address
client_named = refl

pub server_named : is_address server_name ≡ true
unfolding is_address
server_named = refl

all_four : (b : Bool) → (((true && (b && (b && true))) && true) && true) ≡ b
all_four true = refl
all_four false = refl

table_lawful : (n : ℕ) (t : Terms) → n < 8 → is_lawful (table_of (n + 1) t) ≡ is_account t.0
unfolding is_table is_address
table_lawful zero t l = all_four (is_account t.0)
table_lawful (suc zero) t l = all_four (is_account t.0)
table_lawful (suc (suc zero)) t l = all_four (is_account t.0)
table_lawful (suc (suc (suc zero))) t l = all_four (is_account t.0)
table_lawful (suc (suc (suc (suc zero)))) t l = all_four (is_account t.0)
table_lawful (suc (suc (suc (suc (suc zero))))) t l = all_four (is_account t.0)
table_lawful (suc (suc (suc (suc (suc (suc zero)))))) t l = all_four (is_account t.0)
table_lawful (suc (suc (suc (suc (suc (suc (suc zero))))))) t l = all_four (is_account t.0)
table_lawful (suc (suc (suc (suc (suc (suc (suc (suc n)))))))) t l = absurd (omega (arith, l))

pub tables_length : (ts : List Terms) (n : ℕ) → length (tables_from n ts) ≡ length ts
tables_length [] n = refl
tables_length (t ∷ ts) n = ap suc (tables_length ts (n + 1))

-- these are lawful from any place on, as long as there are no more than eight
pub tables_lawful : (ts : List Terms) (n : ℕ) → n + length ts ≤ 8 → list_all is_lawful (tables_from (n + 1) ts) ≡ list_all (λ t. is_account t.0) ts
tables_lawful [] n l = refl
tables_lawful (t ∷ ts) n l =
    ap (λ (b : Bool). b && list_all is_lawful (tables_from ((n + 1) + 1) ts)) (table_lawful n t (omega (arith, l)))
    ∙ ap (λ (b : Bool). is_account t.0 && b) (tables_lawful ts (n + 1) (omega (arith, l)))

few : (n : ℕ) → nat_le n 8 ≡ true → 0 + n ≤ 8
few n e = grind (arith, nat_tests)

if_few : (ts : List Terms) (b : Bool) → (b ≡ true → 0 + length ts ≤ 8) → (b && list_all is_lawful (tables_from 1 ts)) ≡ (b && list_all (λ t. is_account t.0) ts)
if_few ts true l = tables_lawful ts 0 (l refl)
if_few ts false l = refl

-- a chain can be made of these
pub chain_lawful : (ts : List Terms) (config : Config) → is_chain (chain_of ts config) ≡ (nat_le (length ts) 8 && list_all (λ t. is_account t.0) ts)
chain_lawful ts config = ap (λ (n : ℕ). nat_le n 8 && list_all is_lawful (tables_from 1 ts)) (tables_length ts 1) ∙ if_few ts (nat_le (length ts) 8) (few (length ts))

-- one more hop at the end
pub tables_push : (ts : List Terms) (n : ℕ) (t : Terms) → tables_from n (ts ++ t ∷ []) ≡ tables_from n ts ++ table_of (n + length ts) t ∷ []
tables_push [] n t = ap (λ (k : ℕ). table_of k t ∷ []) (omega arith)
tables_push (s ∷ ts) n t = ap (λ (xs : List Table). table_of n s ∷ xs) (tables_push ts (n + 1) t ∙ ap (λ (k : ℕ). tables_from (n + 1) ts ++ table_of k t ∷ []) (omega arith))

pub all_free : (n : ℕ) → list_all (λ (t : Terms). is_account t.0) (map one_to_one (replicate n free_account)) ≡ true
all_free zero = refl
all_free (suc n) = all_free n

both_true : (b c : Bool) → (b && c) ≡ true → (b ≡ true) × (c ≡ true)
both_true true c e = (refl, e)
both_true false c e = absurd (cc)

pub account_at : (ts : List Terms) (i : ℕ) (t : Terms) → i < length ts → t ≡ get_or ts i t → list_all (λ t. is_account t.0) ts ≡ true → is_account t.0 ≡ true
account_at [] i t l is all = absurd (omega (arith, l))
account_at (x ∷ ts) zero t l is all = ap (λ (y : Terms). is_account y.0) is ∙ (both_true (is_account x.0) (list_all (λ t. is_account t.0) ts) all).0
account_at (x ∷ ts) (suc i) t l is all = account_at ts i t (omega (arith, l)) is (both_true (is_account x.0) (list_all (λ t. is_account t.0) ts) all).1

-- the hops of one more
pub hops_more : (ts : List Terms) (i : ℕ) (t : Terms) (ns ms : List Node) (n : Node) → i < length ts → t ≡ get_or ts i t → ns ≡ map new_node (tables_from 1 (take i ts)) → n ≡ new_node (table_of (i + 1) t) → ms ≡ ns ++ n ∷ [] → ms ≡ map new_node (tables_from 1 (take (i + 1) ts))
hops_more ts i t ns ms n l is before this after =
    let count : 1 + length (take i ts) ≡ i + 1 = omega (arith, length-take-le i ts (omega (arith, l))) in
    let more : take (i + 1) ts ≡ take i ts ++ t ∷ [] = take_more ts i t l ∙ ap (λ (x : Terms). take i ts ++ x ∷ []) (sym is) in
    let tables : tables_from 1 (take (i + 1) ts) ≡ tables_from 1 (take i ts) ++ table_of (i + 1) t ∷ [] =
    ap (tables_from 1) more ∙ tables_push (take i ts) 1 t ∙ ap (λ (k : ℕ). tables_from 1 (take i ts) ++ table_of k t ∷ []) count in
    after ∙ ap (λ (xs : List Node). xs ++ n ∷ []) before ∙ ap (λ (x : Node). map new_node (tables_from 1 (take i ts)) ++ x ∷ []) this
    ∙ sym (ap (map new_node) tables ∙ map_push new_node (tables_from 1 (take i ts)) (table_of (i + 1) t))

-- the parts of an opening
pub opened : (ts : List Terms) (config : Config) (p q : Party) (ns : List Node) (a b : Led) (ls : Links) → p ≡ (opening (chain_of ts config)).ends.client → q ≡ (opening (chain_of ts config)).ends.server → ns ≡ map new_node (tables_from 1 ts) → a ≡ fmap.empty → b ≡ fmap.empty → ls ≡ replicate (length ts + 1) empty_link
    → of_parts (record { client = p; server = q }) ns ls (record { client = a; server = b }) false ≡ opening (chain_of ts config)
opened ts config p q ns a b ls ep eq en ea eb el =
    let p' = (opening (chain_of ts config)).ends.client in
    let q' = (opening (chain_of ts config)).ends.server in
    let ns' : List Node = map new_node (tables_from 1 ts) in
    let ls' : Links = replicate (length (tables_from 1 ts) + 1) empty_link in
    let no : Led = fmap.empty in
    let el' : ls ≡ ls' = el ∙ ap (λ (n : ℕ). replicate (n + 1) empty_link) (sym (tables_length ts 1)) in
    ap (λ (x : Party). of_parts (record { client = x; server = q }) ns ls (record { client = a; server = b }) false) ep
    ∙ ap (λ (x : Party). of_parts (record { client = p'; server = x }) ns ls (record { client = a; server = b }) false) eq
    ∙ ap (λ (x : List Node). of_parts (record { client = p'; server = q' }) x ls (record { client = a; server = b }) false) en
    ∙ ap (λ (x : Links). of_parts (record { client = p'; server = q' }) ns' x (record { client = a; server = b }) false) el'
    ∙ ap (λ (x : Led). of_parts (record { client = p'; server = q' }) ns' ls' (record { client = x; server = b }) false) ea
    ∙ ap (λ (x : Led). of_parts (record { client = p'; server = q' }) ns' ls' (record { client = no; server = x }) false) eb

-- and without its links
pub opened_left : (ts : List Terms) (config : Config) (p q : Party) (ns : List Node) (a b : Led) → p ≡ (opening (chain_of ts config)).ends.client → q ≡ (opening (chain_of ts config)).ends.server → ns ≡ map new_node (tables_from 1 ts) → a ≡ fmap.empty → b ≡ fmap.empty
    → left_of (of_parts (record { client = p; server = q }) ns [] (record { client = a; server = b }) false) ≡ left_of (opening (chain_of ts config))
opened_left ts config p q ns a b ep eq en ea eb = ap left_of (opened ts config p q ns a b (replicate (length ts + 1) empty_link) ep eq en ea eb refl)

-- the two together
pub opened_with : (ts : List Terms) (config : Config) (t : Left) (ls : Links) → t ≡ left_of (opening (chain_of ts config)) → ls ≡ replicate (length ts + 1) empty_link → in_world t ls ≡ opening (chain_of ts config)
opened_with ts config t ls et el =
    ap (λ (x : Left). in_world x ls) et
    ∙ ap (λ (x : Links). in_world (left_of (opening (chain_of ts config))) x) (el ∙ ap (λ (n : ℕ). replicate (n + 1) empty_link) (sym (tables_length ts 1)))

pub opened_links : (ts : List Terms) (ns : List Node) (ls : Links) → ns ≡ map new_node (tables_from 1 ts) → ls ≡ replicate (length ts + 1) empty_link → length ls ≡ length ns + 1
opened_links ts ns ls en el =
    ap length el ∙ length-replicate (length ts + 1) empty_link ∙ ap (λ (n : ℕ). n + 1) (sym (ap length en ∙ length-map (tables_from 1 ts) new_node ∙ tables_length ts 1))

pub opened_reached : (w : World) (ts : List Terms) (config : Config) → w ≡ opening (chain_of ts config) → IsReached w
opened_reached w ts config e = (chain_of ts config, [], e)

too_many : (n : ℕ) → 8 < n → nat_le n 8 ≡ false
too_many n l = grind (arith, nat_tests)

pub chain_too_long : (ts : List Terms) (config : Config) → 8 < length ts → is_chain (chain_of ts config) ≡ false
chain_too_long ts config l = chain_lawful ts config ∙ ap (λ (b : Bool). b && list_all (λ t. is_account t.0) ts) (too_many (length ts) l)

pub is_few : (n : ℕ) → n ≤ 8 → nat_le n 8 ≡ true
is_few n l = grind (arith, nat_tests)

-- and one of hops whose limits are not reached can be made, if they are few
pub free_lawful : (n : ℕ) (config : Config) → n ≤ 8 → is_chain (chain_of (map one_to_one (replicate n free_account)) config) ≡ true
free_lawful n config l =
    let ts = map one_to_one (replicate n free_account) in
    let count : length ts ≡ n = length-map (replicate n free_account) one_to_one ∙ length-replicate n free_account in
    chain_lawful ts config ∙ ap (λ (b : Bool). b && list_all (λ t. is_account t.0) ts) (is_few (length ts) (omega (arith, count, l))) ∙ all_free n
