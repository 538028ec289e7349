-- What ways put off, each behind one more test.
use Rattle.std.specs.Prelude.{ℕ, List, [], ◌∷◌, ◌≡◌, ◌++◌}
use Rattle.std.proofs.Common.{refl, sym, ◌∙◌, subst}
use Rattle.std.proofs.lemmas.List.{append-nil, append_assoc}
use Rattle.terms.specs.declared.term.Term.{Term}
use Rattle.terms.specs.Formula.{Formula}
use Rattle.conditions.specs.Code as spec
use Rattle.conditions.specs.Actions.{guard_changed, guard_made}
use Rattle.condition_formulas.specs.Standing.{StandsAs}
use Rattle.condition_code.specs.declared.state.DeferredObject.{DeferredObject}
use Rattle.condition_code.specs.declared.state.DeferredClaim.{DeferredClaim}
use Rattle.condition_code.specs.States.{IsDeferred, EachDeferred, AreDeferred, IsDeferredClaim, EachDeferredClaim, AreDeferredClaims}
use Rattle.condition_branches.specs.Guards.{guarded_object, guarded_claim}

-- Objects.

pub no_deferred : {ts : List Term} {cs : List DeferredObject} → cs ≡ [] → AreDeferred ts cs []
no_deferred {ts} e = subst (λ (ks : List DeferredObject). AreDeferred ts ks []) (sym e) (record { each = tt })

each_one : (ts : List Term) (cs : List DeferredObject) (ds : List spec.DeferredObject) (c : DeferredObject) (d : spec.DeferredObject) → EachDeferred ts cs ds → IsDeferred ts c d → EachDeferred ts (cs ++ c ∷ []) (ds ++ d ∷ [])
each_one ts [] [] c d h is = (is, tt)
each_one ts [] (e ∷ es) c d h is = absurd h
each_one ts (k ∷ ks) [] c d h is = absurd h
each_one ts (k ∷ ks) (e ∷ es) c d h is = (h.0, each_one ts ks es c d h.1 is)

-- some are noted, the rest is still to be
pub record Notes (ts : List Term) (f : Formula) (now rest : List DeferredObject) (whole : List spec.DeferredObject) : Type 0 where
  pub done : List spec.DeferredObject
  pub left : List spec.DeferredObject
  pub done_are : AreDeferred ts now done
  pub left_are : AreDeferred ts rest left
  pub is : done ++ guard_changed f left ≡ whole

pub record Noted (test : ℕ) (before objects now rest : List DeferredObject) : Type 0 where
  pub notes : (ts : List Term) (f : Formula) (ds es : List spec.DeferredObject) → StandsAs ts test f → AreDeferred ts before ds → AreDeferred ts objects es → Notes ts f now rest (ds ++ guard_changed f es)

pub noted_none : {test : ℕ} {before objects rest : List DeferredObject} → rest ≡ objects → Noted test before objects before rest
noted_none {rest = rest} e = record { notes = λ ts f ds es is hd he. record { done = ds; left = es; done_are = hd; left_are = subst (λ (ks : List DeferredObject). AreDeferred ts ks es) (sym e) he; is = refl } }

one_noted : {ts : List Term} {f : Formula} {now next rest : List DeferredObject} {c g : DeferredObject} (whole left done : List spec.DeferredObject) → AreDeferred ts now done → EachDeferred ts (c ∷ rest) left → done ++ guard_changed f left ≡ whole → ((d : spec.DeferredObject) → IsDeferred ts c d → IsDeferred ts g (guarded_object f d)) → next ≡ now ++ g ∷ [] → Notes ts f next rest whole
one_noted whole [] done hd he is guarded more = absurd he
one_noted {ts} {f} {now} {next} {rest} {c} {g} whole (d ∷ ds) done hd he is guarded more = record {
  done = done ++ guarded_object f d ∷ [];
  left = ds;
  done_are = subst (λ (ks : List DeferredObject). AreDeferred ts ks (done ++ guarded_object f d ∷ [])) (sym more) (record { each = each_one ts now done g (guarded_object f d) hd.each (guarded d he.0) });
  left_are = record { each = he.1 };
  is = append_assoc done (guarded_object f d ∷ []) (guard_changed f ds) ∙ is;
}

pub noted_more : {test : ℕ} {before objects now next rest fewer : List DeferredObject} {c g : DeferredObject} → Noted test before objects now rest → rest ≡ c ∷ fewer → ((ts : List Term) (f : Formula) (d : spec.DeferredObject) → StandsAs ts test f → IsDeferred ts c d → IsDeferred ts g (guarded_object f d)) → next ≡ now ++ g ∷ [] → Noted test before objects next fewer
noted_more to first guarded more = record {
  notes = λ ts f ds es is hd he.
      let n = to.notes ts f ds es is hd he in
      one_noted (ds ++ guard_changed f es) n.left n.done n.done_are (subst (λ (ks : List DeferredObject). EachDeferred ts ks n.left) first n.left_are.each) n.is (λ d h. guarded ts f d is h) more;
}

none_left : {ts : List Term} (f : Formula) {now : List DeferredObject} (whole left done : List spec.DeferredObject) → AreDeferred ts now done → EachDeferred ts [] left → done ++ guard_changed f left ≡ whole → AreDeferred ts now whole
none_left {ts} f {now} whole [] done hd he is = subst (λ (ds : List spec.DeferredObject). AreDeferred ts now ds) (sym (append-nil done) ∙ is) hd
none_left f whole (d ∷ ds) done hd he is = absurd he

pub noted_all : {test : ℕ} {before objects now rest : List DeferredObject} → Noted test before objects now rest → rest ≡ [] → (ts : List Term) (f : Formula) (ds es : List spec.DeferredObject) → StandsAs ts test f → AreDeferred ts before ds → AreDeferred ts objects es → AreDeferred ts now (ds ++ guard_changed f es)
noted_all to end ts f ds es is hd he =
    let n = to.notes ts f ds es is hd he in
    none_left f (ds ++ guard_changed f es) n.left n.done n.done_are (subst (λ (ks : List DeferredObject). EachDeferred ts ks n.left) end n.left_are.each) n.is

-- Claims.

pub no_claims : {ts : List Term} {cs : List DeferredClaim} → cs ≡ [] → AreDeferredClaims ts cs []
no_claims {ts} e = subst (λ (ks : List DeferredClaim). AreDeferredClaims ts ks []) (sym e) (record { each = tt })

each_claim : (ts : List Term) (cs : List DeferredClaim) (ds : List spec.DeferredClaim) (c : DeferredClaim) (d : spec.DeferredClaim) → EachDeferredClaim ts cs ds → IsDeferredClaim ts c d → EachDeferredClaim ts (cs ++ c ∷ []) (ds ++ d ∷ [])
each_claim ts [] [] c d h is = (is, tt)
each_claim ts [] (e ∷ es) c d h is = absurd h
each_claim ts (k ∷ ks) [] c d h is = absurd h
each_claim ts (k ∷ ks) (e ∷ es) c d h is = (h.0, each_claim ts ks es c d h.1 is)

-- some are noted, the rest is still to be
pub record NotesClaims (ts : List Term) (f : Formula) (now rest : List DeferredClaim) (whole : List spec.DeferredClaim) : Type 0 where
  pub done : List spec.DeferredClaim
  pub left : List spec.DeferredClaim
  pub done_are : AreDeferredClaims ts now done
  pub left_are : AreDeferredClaims ts rest left
  pub is : done ++ guard_made f left ≡ whole

pub record NotedClaims (test : ℕ) (before claims now rest : List DeferredClaim) : Type 0 where
  pub notes : (ts : List Term) (f : Formula) (ds es : List spec.DeferredClaim) → StandsAs ts test f → AreDeferredClaims ts before ds → AreDeferredClaims ts claims es → NotesClaims ts f now rest (ds ++ guard_made f es)

pub claims_none : {test : ℕ} {before claims rest : List DeferredClaim} → rest ≡ claims → NotedClaims test before claims before rest
claims_none {rest = rest} e = record { notes = λ ts f ds es is hd he. record { done = ds; left = es; done_are = hd; left_are = subst (λ (ks : List DeferredClaim). AreDeferredClaims ts ks es) (sym e) he; is = refl } }

one_claim : {ts : List Term} {f : Formula} {now next rest : List DeferredClaim} {c g : DeferredClaim} (whole left done : List spec.DeferredClaim) → AreDeferredClaims ts now done → EachDeferredClaim ts (c ∷ rest) left → done ++ guard_made f left ≡ whole → ((d : spec.DeferredClaim) → IsDeferredClaim ts c d → IsDeferredClaim ts g (guarded_claim f d)) → next ≡ now ++ g ∷ [] → NotesClaims ts f next rest whole
one_claim whole [] done hd he is guarded more = absurd he
one_claim {ts} {f} {now} {next} {rest} {c} {g} whole (d ∷ ds) done hd he is guarded more = record {
  done = done ++ guarded_claim f d ∷ [];
  left = ds;
  done_are = subst (λ (ks : List DeferredClaim). AreDeferredClaims ts ks (done ++ guarded_claim f d ∷ [])) (sym more) (record { each = each_claim ts now done g (guarded_claim f d) hd.each (guarded d he.0) });
  left_are = record { each = he.1 };
  is = append_assoc done (guarded_claim f d ∷ []) (guard_made f ds) ∙ is;
}

pub claims_more : {test : ℕ} {before claims now next rest fewer : List DeferredClaim} {c g : DeferredClaim} → NotedClaims test before claims now rest → rest ≡ c ∷ fewer → ((ts : List Term) (f : Formula) (d : spec.DeferredClaim) → StandsAs ts test f → IsDeferredClaim ts c d → IsDeferredClaim ts g (guarded_claim f d)) → next ≡ now ++ g ∷ [] → NotedClaims test before claims next fewer
claims_more to first guarded more = record {
  notes = λ ts f ds es is hd he.
      let n = to.notes ts f ds es is hd he in
      one_claim (ds ++ guard_made f es) n.left n.done n.done_are (subst (λ (ks : List DeferredClaim). EachDeferredClaim ts ks n.left) first n.left_are.each) n.is (λ d h. guarded ts f d is h) more;
}

no_claim_left : {ts : List Term} (f : Formula) {now : List DeferredClaim} (whole left done : List spec.DeferredClaim) → AreDeferredClaims ts now done → EachDeferredClaim ts [] left → done ++ guard_made f left ≡ whole → AreDeferredClaims ts now whole
no_claim_left {ts} f {now} whole [] done hd he is = subst (λ (ds : List spec.DeferredClaim). AreDeferredClaims ts now ds) (sym (append-nil done) ∙ is) hd
no_claim_left f whole (d ∷ ds) done hd he is = absurd he

pub claims_all : {test : ℕ} {before claims now rest : List DeferredClaim} → NotedClaims test before claims now rest → rest ≡ [] → (ts : List Term) (f : Formula) (ds es : List spec.DeferredClaim) → StandsAs ts test f → AreDeferredClaims ts before ds → AreDeferredClaims ts claims es → AreDeferredClaims ts now (ds ++ guard_made f es)
claims_all to end ts f ds es is hd he =
    let n = to.notes ts f ds es is hd he in
    no_claim_left f (ds ++ guard_made f es) n.left n.done n.done_are (subst (λ (ks : List DeferredClaim). EachDeferredClaim ts ks n.left) end n.left_are.each) n.is
