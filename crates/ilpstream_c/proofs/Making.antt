-- What is made in an empty handle.
use Rattle.std.proofs.Common.{◌≡◌, ◌⊎◌, inl, inr, ℕ, true, List, map, sym, subst}
use Rattle.std.specs.Prelude.{Option, Some, None}
use Rattle.st_keys.specs.Keys.{keys_of}
use Rattle.st_end.specs.State.{new_end}
use Rattle.st_hop.specs.Books.{AreBooks, restored}
use Rattle.st_hop.specs.Table.{is_table, new_hop}
use Rattle.host_objects.specs.Codes.{done}
use Rattle.host_objects.specs.Ends.{IsNewEnd}
use Rattle.host_objects.specs.Hops.{IsNewHop}
use Rattle.host_objects.specs.declared.object.Object.{Object}
use Rattle.host_objects.specs.declared.object.Object.TheVariants.{End, Hop}
use Rattle.host_objects.specs.declared.end.HostEnd.{HostEnd}
use Rattle.host_objects.specs.declared.hop.HostHop.{HostHop}
use Rattle.ilpstream_c.specs.declared.end.HostConfig.{HostConfig}
use Rattle.ilpstream_c.specs.declared.table.HostAccount.{HostAccount}
use Rattle.ilpstream_c.specs.declared.table.HostRoute.{HostRoute}
use Rattle.ilpstream_c.specs.Ends.{AreTerms, IsEndMade, config_of, no_memory, role_of}
use Rattle.ilpstream_c.specs.Hops.{IsHopMade, IsHopRestored, account_of, are_routes, hop_no_memory, ways_of}

-- an object is put into the handle, or memory is refused for it
abbrev pub Put : Object → (code : ℕ) (new : Option Object) (refused : ℕ) → Type 0
Put o code new refused = ((code ≡ done) × (new ≡ Some o)) ⊎ ((code ≡ refused) × (new ≡ None))

module _ (role : ℕ) (secret own peer : List ℕ) (c : HostConfig) (new : Option Object) (code : ℕ) (e : HostEnd) (terms : AreTerms role own peer c) (made : IsNewEnd (new_end (role_of role) (keys_of secret) own peer (config_of c)) e) where
  end_put : Put (End e) code new no_memory → IsEndMade role secret own peer c None new code
  end_put (inl p) = inl (p.0, (terms, (e, (p.1, made))))
  end_put (inr q) = inr (inl q)

  pub end_made : (old : Option Object) → old ≡ None → (refused : ℕ) → refused ≡ no_memory → Put (End e) code new refused → IsEndMade role secret own peer c old new code
  end_made old is refused same put =
      subst (λ (s : Option Object). IsEndMade role secret own peer c s new code) (sym is) (end_put (subst (Put (End e) code new) same put))

module _ (own : List ℕ) (accounts : List HostAccount) (text : List ℕ) (routes : List HostRoute) (new : Option Object) (code : ℕ) (h : HostHop) (table : is_table own (map account_of accounts) (ways_of text routes) ≡ true) (cut : are_routes text routes ≡ true) (made : IsNewHop (new_hop own (map account_of accounts) (ways_of text routes)) h) where
  hop_put : Put (Hop h) code new hop_no_memory → IsHopMade own accounts text routes None new code
  hop_put (inl p) = inl (p.0, (table, (cut, (h, (p.1, made)))))
  hop_put (inr q) = inr (inl q)

  pub hop_made : (old : Option Object) → old ≡ None → (refused : ℕ) → refused ≡ hop_no_memory → Put (Hop h) code new refused → IsHopMade own accounts text routes old new code
  hop_made old is refused same put =
      subst (λ (s : Option Object). IsHopMade own accounts text routes s new code) (sym is) (hop_put (subst (Put (Hop h) code new) same put))

module _ (own : List ℕ) (accounts : List HostAccount) (text : List ℕ) (routes : List HostRoute) (claims dues : List ℕ) (next : ℕ) (new : Option Object) (code : ℕ) (h : HostHop) (cut : are_routes text routes ≡ true) (books : AreBooks (map account_of accounts) claims dues) (made : IsNewHop (restored (new_hop own (map account_of accounts) (ways_of text routes)) claims dues next) h) where
  restored_put : Put (Hop h) code new hop_no_memory → IsHopRestored own accounts text routes claims dues next None new code
  restored_put (inl p) = inl (p.0, (cut, (books, (h, (p.1, made)))))
  restored_put (inr q) = inr (inl q.0, q.1)

  pub hop_restored : (old : Option Object) → old ≡ None → (refused : ℕ) → refused ≡ hop_no_memory → Put (Hop h) code new refused → IsHopRestored own accounts text routes claims dues next old new code
  hop_restored old is refused same put =
      subst (λ (s : Option Object). IsHopRestored own accounts text routes claims dues next s new code) (sym is) (restored_put (subst (Put (Hop h) code new) same put))
