-- Annotations with their quantifiers in order: none in a \claims, each over references, numbered before those in it.
use Rattle.std.proofs.Common.{◌≡◌, ℕ, suc, Bool, true, false, not, ◌&&◌, nat_le, refl}
use Rattle.method.specs.declared.program.Spec.{Spec, Row_of-Spec, end_of-Spec, more_of-Spec}
use Rattle.method.specs.declared.program.Spec.TheVariants as s
use Rattle.typed_program.specs.Trees as t
use Rattle.typed_program.specs.Views as seen
use Rattle.condition_meaning.specs.Fits as fit
use Rattle.condition_meaning.specs.Fits.{is_ref_type}

-- the quantified formulas, inner ones apart, have numbers from this one on
abbrev mutual
  pub numbers_from : ℕ → t.Spec → Bool
  numbers_from m (t.SNumber z) = true
  numbers_from m (t.STruth b) = true
  numbers_from m t.SNull = true
  numbers_from m (t.SVariable i) = true
  numbers_from m (t.SBound i) = true
  numbers_from m t.SThis = true
  numbers_from m t.SMe = true
  numbers_from m t.SResult = true
  numbers_from m (t.SField x f) = numbers_from m x
  numbers_from m (t.SClosed x) = numbers_from m x
  numbers_from m (t.SClaimCount x) = numbers_from m x
  numbers_from m (t.SNot x) = numbers_from m x
  numbers_from m (t.SNegate x) = numbers_from m x
  numbers_from m (t.SWrapped x) = numbers_from m x
  numbers_from m (t.SWrapped0 x) = numbers_from m x
  numbers_from m (t.SMutable x) = numbers_from m x
  numbers_from m (t.SFresh x) = numbers_from m x
  numbers_from m (t.SLists x) = numbers_from m x
  numbers_from m (t.SOwner x) = numbers_from m x
  numbers_from m (t.SOld x) = numbers_from m x
  numbers_from m (t.SUnchanged x) = numbers_from m x
  numbers_from m (t.SMember x y) = numbers_from m x && numbers_from m y
  numbers_from m (t.SArithmetic o x y) = numbers_from m x && numbers_from m y
  numbers_from m (t.SCompare o x y) = numbers_from m x && numbers_from m y
  numbers_from m (t.SAnd x y) = numbers_from m x && numbers_from m y
  numbers_from m (t.SOr x y) = numbers_from m x && numbers_from m y
  numbers_from m (t.SImplies x y) = numbers_from m x && numbers_from m y
  numbers_from m (t.SIff x y) = numbers_from m x && numbers_from m y
  numbers_from m (t.SClaimsObject x y) = numbers_from m x && numbers_from m y
  numbers_from m (t.SChoose x y z) = numbers_from m x && (numbers_from m y && numbers_from m z)
  numbers_from m (t.SClaims x xs) = numbers_from m x && all_numbers_from m xs
  numbers_from m (t.SHas c) = true
  numbers_from m (t.SForAll n ty x y) = nat_le m n
  numbers_from m (t.SExists n ty x ys) = nat_le m n
  numbers_from m (t.SClaimsOnly n x ys) = nat_le m n && (numbers_from m x && all_numbers_from m ys)

  pub all_numbers_from : ℕ → t.Specs → Bool
  all_numbers_from m t.Stop = true
  all_numbers_from m (t.With x xs) = numbers_from m x && all_numbers_from m xs

abbrev mutual
  -- within a \claims or not
  pub is_ordered : Bool → t.Spec → Bool
  is_ordered i (t.SNumber z) = true
  is_ordered i (t.STruth b) = true
  is_ordered i t.SNull = true
  is_ordered i (t.SVariable j) = true
  is_ordered i (t.SBound j) = true
  is_ordered i t.SThis = true
  is_ordered i t.SMe = true
  is_ordered i t.SResult = true
  is_ordered i (t.SField x f) = is_ordered i x
  is_ordered i (t.SClosed x) = is_ordered i x
  is_ordered i (t.SClaimCount x) = is_ordered i x
  is_ordered i (t.SNot x) = is_ordered i x
  is_ordered i (t.SNegate x) = is_ordered i x
  is_ordered i (t.SWrapped x) = is_ordered i x
  is_ordered i (t.SWrapped0 x) = is_ordered i x
  is_ordered i (t.SMutable x) = is_ordered i x
  is_ordered i (t.SFresh x) = is_ordered i x
  is_ordered i (t.SLists x) = is_ordered i x
  is_ordered i (t.SOwner x) = is_ordered i x
  is_ordered i (t.SOld x) = is_ordered i x
  is_ordered i (t.SUnchanged x) = is_ordered i x
  is_ordered i (t.SMember x y) = is_ordered i x && is_ordered i y
  is_ordered i (t.SArithmetic o x y) = is_ordered i x && is_ordered i y
  is_ordered i (t.SCompare o x y) = is_ordered i x && is_ordered i y
  is_ordered i (t.SAnd x y) = is_ordered i x && is_ordered i y
  is_ordered i (t.SOr x y) = is_ordered i x && is_ordered i y
  is_ordered i (t.SImplies x y) = is_ordered i x && is_ordered i y
  is_ordered i (t.SIff x y) = is_ordered i x && is_ordered i y
  is_ordered i (t.SClaimsObject x y) = is_ordered i x && is_ordered i y
  is_ordered i (t.SChoose x y z) = is_ordered i x && (is_ordered i y && is_ordered i z)
  is_ordered i (t.SClaims x xs) = is_ordered i x && are_ordered true xs
  is_ordered i (t.SHas c) = true
  is_ordered i (t.SForAll n ty x y) = not i && (is_ref_type ty && ((numbers_from (suc n) x && numbers_from (suc n) y) && (is_ordered false x && is_ordered false y)))
  is_ordered i (t.SExists n ty x ys) = not i && (is_ref_type ty && ((numbers_from (suc n) x && all_numbers_from (suc n) ys) && (is_ordered false x && are_ordered false ys)))
  is_ordered i (t.SClaimsOnly n x ys) = not i && ((numbers_from (suc n) x && all_numbers_from (suc n) ys) && (is_ordered false x && are_ordered false ys))

  pub are_ordered : Bool → t.Specs → Bool
  are_ordered i t.Stop = true
  are_ordered i (t.With x xs) = is_ordered i x && are_ordered i xs

mutual
  pub numbers_from_seen : (m : ℕ) (e : Spec) → fit.numbers_from m e ≡ numbers_from m (seen.spec e)
  numbers_from_seen m (s.Number z) = refl
  numbers_from_seen m (s.Truth b) = refl
  numbers_from_seen m s.Null = refl
  numbers_from_seen m (s.Variable i) = refl
  numbers_from_seen m (s.Bound i) = refl
  numbers_from_seen m s.This = refl
  numbers_from_seen m s.Me = refl
  numbers_from_seen m s.Result = refl
  numbers_from_seen m (s.Field' q e f) = numbers_from_seen m e
  numbers_from_seen m (s.Closed' q e) = numbers_from_seen m e
  numbers_from_seen m (s.ClaimCount' q e) = numbers_from_seen m e
  numbers_from_seen m (s.Not' q e) = numbers_from_seen m e
  numbers_from_seen m (s.Negate' q e) = numbers_from_seen m e
  numbers_from_seen m (s.Wrapped' q e) = numbers_from_seen m e
  numbers_from_seen m (s.Wrapped0' q e) = numbers_from_seen m e
  numbers_from_seen m (s.Mutable' q e) = numbers_from_seen m e
  numbers_from_seen m (s.Fresh' q e) = numbers_from_seen m e
  numbers_from_seen m (s.Lists' q e) = numbers_from_seen m e
  numbers_from_seen m (s.Owner' q e) = numbers_from_seen m e
  numbers_from_seen m (s.Old' q e) = numbers_from_seen m e
  numbers_from_seen m (s.Unchanged' q e) = numbers_from_seen m e
  numbers_from_seen m (s.Member' q a r b) = λ i. numbers_from_seen m a i && numbers_from_seen m b i
  numbers_from_seen m (s.Arithmetic' op q a r b) = λ i. numbers_from_seen m a i && numbers_from_seen m b i
  numbers_from_seen m (s.Compare' op q a r b) = λ i. numbers_from_seen m a i && numbers_from_seen m b i
  numbers_from_seen m (s.And' q a r b) = λ i. numbers_from_seen m a i && numbers_from_seen m b i
  numbers_from_seen m (s.Or' q a r b) = λ i. numbers_from_seen m a i && numbers_from_seen m b i
  numbers_from_seen m (s.Implies' q a r b) = λ i. numbers_from_seen m a i && numbers_from_seen m b i
  numbers_from_seen m (s.Iff' q a r b) = λ i. numbers_from_seen m a i && numbers_from_seen m b i
  numbers_from_seen m (s.ClaimsObject' q a r b) = λ i. numbers_from_seen m a i && numbers_from_seen m b i
  numbers_from_seen m (s.Choose' q a r b u c) = λ i. numbers_from_seen m a i && (numbers_from_seen m b i && numbers_from_seen m c i)
  numbers_from_seen m (s.Claims' q c n row) = λ i. numbers_from_seen m c i && row_numbers_from_seen m row i
  numbers_from_seen m (s.Has c) = refl
  numbers_from_seen m (s.ForAll' n ty q e r body) = refl
  numbers_from_seen m (s.Exists' n ty q e k row) = refl
  numbers_from_seen m (s.ClaimsOnly' n q c k row) = λ i. nat_le m n && (numbers_from_seen m c i && row_numbers_from_seen m row i)

  pub row_numbers_from_seen : {n : _} (m : ℕ) (row : Row_of-Spec n) → fit.row_numbers_from m row ≡ all_numbers_from m (seen.row row)
  row_numbers_from_seen m end_of-Spec = refl
  row_numbers_from_seen m (more_of-Spec e row) = λ i. numbers_from_seen m e i && row_numbers_from_seen m row i
