use Rattle.std.proofs.Common.{◌≡◌, [], ◌∷◌, Bor, List, ℕ, codes, refl, ap, ◌∙◌, get_or, rules}
use Rattle.ilpstream_settings.proofs.Lines.{three_words}
use Rattle.ilpstream_settings.proofs.ledger.settle_of.Goals as goal

pub returns : goal.returns
returns c =
    let d : Bor (List ℕ) = record { ref_ptr = (0, 0); now = [] } in
    let words = three_words c.args.words.now d c.in-len3.len_at_least c.in-len3.len_below in
    let is : (get_or c.args.words.now 0 d).now ≡ codes "settle" = search rules in
    record {
      name = (get_or c.args.words.now 1 d).now;
      amount = (get_or c.args.words.now 2 d).now;
      words_are = words ∙ ap (λ (w : List ℕ). w ∷ (get_or c.args.words.now 1 d).now ∷ (get_or c.args.words.now 2 d).now ∷ []) is;
      name_is = (refl, search rules);
      amount_is = c.in_ok-side.ensures;
      kind_is = refl;
      alone = refl;
    }
