use Rattle.std.proofs.Common.{◌≡◌, ◌++◌, ◌∷◌, [], List, ℕ, length, reverse, ap, ◌∙◌, arith}
use Rattle.typing_symbols.specs.Hidden.{innermost}
use Rattle.typing_symbols.specs.Lookup.{at}
use Rattle.typing_symbols.proofs.Nesting.{covered, hiding_more}
use Rattle.typing_symbols.proofs.Tables.{written}
use Rattle.typing_symbols.proofs.variables.Variables.push.Goals as goal

pub invariant_of-self-2 : goal.invariant_of-self-2
invariant_of-self-2 c =
    let s = c.args.self.now in
    let more = c.push_reserved.ensures.items ∙ ap (λ l. l ++ record { variable = c.args.one; hides = c.in_ok-hides.hides } ∷ []) c.reserve.ensures.items in
    let count : c.len-place.result ≡ length s.all.items = omega (arith, ap length c.reserve.ensures.items) in
    record {
      found = covered s.all.items _ _ more (at s.places) (at c.insert.new.self) c.len-place.result count s.found (written c.as_slice.result _ s.places c.insert.new.self _ c.as_slice.ensures.value c.in_ok-hides.ensures.updates);
      hidden = hiding_more s.all.items _ _ more (c.in_ok-hides.ensures.old ∙ s.found c.as_slice.result.now ∙ ap (λ (b : List ℕ). innermost b (reverse s.all.items)) c.as_slice.ensures.value) s.hidden;
    }
