-- Annotations of a source have their quantifiers in order, with shapes numbered or not.
use Rattle.std.specs.Prelude.{ℕ, suc, ◌+◌, ◌≤◌, Bool, true, false, ◌&&◌, nat_le, List, IsTrue}
use Rattle.std.proofs.Common.{refl, arith}
use Rattle.std.proofs.lemmas.Bool.{le-leb}
use Rattle.c_syntax.specs.declared.tree.Constant.{Constant}
use Rattle.c_syntax.specs.declared.tree.Constant.TheVariants as constants
use Rattle.c_syntax.specs.declared.tree.Status.{Status}
use Rattle.c_syntax.specs.declared.tree.Status.TheVariants as statuses
use Rattle.c_syntax.specs.declared.tree.UnaryOperator.{UnaryOperator}
use Rattle.c_syntax.specs.declared.tree.UnaryOperator.TheVariants as unary
use Rattle.c_syntax.specs.declared.tree.BinaryOperator.TheVariants as op
use Rattle.c_syntax.specs.declared.tree.SpecFunction.{SpecFunction}
use Rattle.c_syntax.specs.declared.tree.SpecFunction.TheVariants as f
use Rattle.c_syntax.specs.declared.tree.ListWord.TheVariants as lists
use Rattle.c_syntax.specs.declared.tree.Quantifier.TheVariants as q
use Rattle.c_syntax.specs.Expressions as e
use Rattle.c_syntax.specs.Expressions.{Ty, Exp, Exps}
use Rattle.c_syntax.specs.Items.{Item}
use Rattle.method.specs.declared.program.DeclaredType.{DeclaredType}
use Rattle.typed_program.specs.Trees as t
use Rattle.typed_program.specs.Trees.{Spec, Specs, Stop, With, Shape}
use Rattle.typed_program.specs.Numbers.{Around, Meaning, OfQuantifier, OfFunction, OwnField, meaning, declared_type}
use Rattle.typed_program.specs.Codes.{Binary, Computes, Compares, IsAnd, IsOr, IsImplies, IsIff, IsMember, binary}
use Rattle.typed_program.specs.Annotations.{formulas, spec, members, claims_only, each_spec, conjuncts, for_all, exists, owner, owner_first, others, append, and_all, all_hold, word, name, status, negation, joined, applied, within_quantifier}
use Rattle.typed_program.specs.Shapes.{Sorts, numbered, all_numbered, numbered_conjuncts}
use Rattle.typed_laws.proofs.Basics.{and_both, and_left, and_right, never}
use Rattle.typed_laws.proofs.Numbered.{plain, row_plain, neat}
use Rattle.typed_laws.proofs.FitShapes.{refers, fit, all_fit, held, neat_spec}
use Rattle.condition_meaning.specs.Fits.{is_ref_type}
use Rattle.text_laws.proofs.Order.{numbers_from, all_numbers_from, is_ordered, are_ordered}

-- ---- without quantifiers

mutual
  plain_above : (k : ℕ) (w : Spec) → IsTrue (plain w) → IsTrue (numbers_from k w)
  plain_above k (t.SNumber z) h = refl
  plain_above k (t.STruth b) h = refl
  plain_above k t.SNull h = refl
  plain_above k (t.SVariable j) h = refl
  plain_above k (t.SBound j) h = refl
  plain_above k t.SThis h = refl
  plain_above k t.SMe h = refl
  plain_above k t.SResult h = refl
  plain_above k (t.SField x g) h = plain_above k x h
  plain_above k (t.SClosed x) h = plain_above k x h
  plain_above k (t.SOwner x) h = plain_above k x h
  plain_above k (t.SClaimCount x) h = plain_above k x h
  plain_above k (t.SNot x) h = plain_above k x h
  plain_above k (t.SNegate x) h = plain_above k x h
  plain_above k (t.SLists x) h = plain_above k x h
  plain_above k (t.SMember x y) h = and_both (numbers_from k x) (numbers_from k y) (plain_above k x (and_left (plain x) (plain y) h)) (plain_above k y (and_right (plain x) (plain y) h))
  plain_above k (t.SArithmetic o x y) h = and_both (numbers_from k x) (numbers_from k y) (plain_above k x (and_left (plain x) (plain y) h)) (plain_above k y (and_right (plain x) (plain y) h))
  plain_above k (t.SCompare o x y) h = and_both (numbers_from k x) (numbers_from k y) (plain_above k x (and_left (plain x) (plain y) h)) (plain_above k y (and_right (plain x) (plain y) h))
  plain_above k (t.SAnd x y) h = and_both (numbers_from k x) (numbers_from k y) (plain_above k x (and_left (plain x) (plain y) h)) (plain_above k y (and_right (plain x) (plain y) h))
  plain_above k (t.SOr x y) h = and_both (numbers_from k x) (numbers_from k y) (plain_above k x (and_left (plain x) (plain y) h)) (plain_above k y (and_right (plain x) (plain y) h))
  plain_above k (t.SImplies x y) h = and_both (numbers_from k x) (numbers_from k y) (plain_above k x (and_left (plain x) (plain y) h)) (plain_above k y (and_right (plain x) (plain y) h))
  plain_above k (t.SIff x y) h = and_both (numbers_from k x) (numbers_from k y) (plain_above k x (and_left (plain x) (plain y) h)) (plain_above k y (and_right (plain x) (plain y) h))
  plain_above k (t.SClaimsObject x y) h = and_both (numbers_from k x) (numbers_from k y) (plain_above k x (and_left (plain x) (plain y) h)) (plain_above k y (and_right (plain x) (plain y) h))
  plain_above k (t.SChoose x y z) h =
      let r = and_right (plain x) (plain y && plain z) h in
      and_both (numbers_from k x) (numbers_from k y && numbers_from k z) (plain_above k x (and_left (plain x) (plain y && plain z) h)) (and_both (numbers_from k y) (numbers_from k z) (plain_above k y (and_left (plain y) (plain z) r)) (plain_above k z (and_right (plain y) (plain z) r)))
  plain_above k (t.SClaims x xs) h = and_both (numbers_from k x) (all_numbers_from k xs) (plain_above k x (and_left (plain x) (row_plain xs) h)) (row_above k xs (and_right (plain x) (row_plain xs) h))
  plain_above k _ h = never h

  row_above : (k : ℕ) (ws : Specs) → IsTrue (row_plain ws) → IsTrue (all_numbers_from k ws)
  row_above k Stop h = refl
  row_above k (With x xs) h = and_both (numbers_from k x) (all_numbers_from k xs) (plain_above k x (and_left (plain x) (row_plain xs) h)) (row_above k xs (and_right (plain x) (row_plain xs) h))

mutual
  pub plain_ordered : (i : Bool) (w : Spec) → IsTrue (plain w) → IsTrue (is_ordered i w)
  plain_ordered i (t.SNumber z) h = refl
  plain_ordered i (t.STruth b) h = refl
  plain_ordered i t.SNull h = refl
  plain_ordered i (t.SVariable j) h = refl
  plain_ordered i (t.SBound j) h = refl
  plain_ordered i t.SThis h = refl
  plain_ordered i t.SMe h = refl
  plain_ordered i t.SResult h = refl
  plain_ordered i (t.SField x g) h = plain_ordered i x h
  plain_ordered i (t.SClosed x) h = plain_ordered i x h
  plain_ordered i (t.SOwner x) h = plain_ordered i x h
  plain_ordered i (t.SClaimCount x) h = plain_ordered i x h
  plain_ordered i (t.SNot x) h = plain_ordered i x h
  plain_ordered i (t.SNegate x) h = plain_ordered i x h
  plain_ordered i (t.SLists x) h = plain_ordered i x h
  plain_ordered i (t.SMember x y) h = and_both (is_ordered i x) (is_ordered i y) (plain_ordered i x (and_left (plain x) (plain y) h)) (plain_ordered i y (and_right (plain x) (plain y) h))
  plain_ordered i (t.SArithmetic o x y) h = and_both (is_ordered i x) (is_ordered i y) (plain_ordered i x (and_left (plain x) (plain y) h)) (plain_ordered i y (and_right (plain x) (plain y) h))
  plain_ordered i (t.SCompare o x y) h = and_both (is_ordered i x) (is_ordered i y) (plain_ordered i x (and_left (plain x) (plain y) h)) (plain_ordered i y (and_right (plain x) (plain y) h))
  plain_ordered i (t.SAnd x y) h = and_both (is_ordered i x) (is_ordered i y) (plain_ordered i x (and_left (plain x) (plain y) h)) (plain_ordered i y (and_right (plain x) (plain y) h))
  plain_ordered i (t.SOr x y) h = and_both (is_ordered i x) (is_ordered i y) (plain_ordered i x (and_left (plain x) (plain y) h)) (plain_ordered i y (and_right (plain x) (plain y) h))
  plain_ordered i (t.SImplies x y) h = and_both (is_ordered i x) (is_ordered i y) (plain_ordered i x (and_left (plain x) (plain y) h)) (plain_ordered i y (and_right (plain x) (plain y) h))
  plain_ordered i (t.SIff x y) h = and_both (is_ordered i x) (is_ordered i y) (plain_ordered i x (and_left (plain x) (plain y) h)) (plain_ordered i y (and_right (plain x) (plain y) h))
  plain_ordered i (t.SClaimsObject x y) h = and_both (is_ordered i x) (is_ordered i y) (plain_ordered i x (and_left (plain x) (plain y) h)) (plain_ordered i y (and_right (plain x) (plain y) h))
  plain_ordered i (t.SChoose x y z) h =
      let r = and_right (plain x) (plain y && plain z) h in
      and_both (is_ordered i x) (is_ordered i y && is_ordered i z) (plain_ordered i x (and_left (plain x) (plain y && plain z) h)) (and_both (is_ordered i y) (is_ordered i z) (plain_ordered i y (and_left (plain y) (plain z) r)) (plain_ordered i z (and_right (plain y) (plain z) r)))
  plain_ordered i (t.SClaims x xs) h = and_both (is_ordered i x) (are_ordered true xs) (plain_ordered i x (and_left (plain x) (row_plain xs) h)) (row_ordered true xs (and_right (plain x) (row_plain xs) h))
  plain_ordered i _ h = never h

  row_ordered : (i : Bool) (ws : Specs) → IsTrue (row_plain ws) → IsTrue (are_ordered i ws)
  row_ordered i Stop h = refl
  row_ordered i (With x xs) h = and_both (is_ordered i x) (are_ordered i xs) (plain_ordered i x (and_left (plain x) (row_plain xs) h)) (row_ordered i xs (and_right (plain x) (row_plain xs) h))

-- ---- shapes numbered

mutual
  numbered_above : (l : List Shape) (s : Sorts) (k : ℕ) (w : Spec) → IsTrue (numbers_from k w) → IsTrue (numbers_from k (numbered l s w))
  numbered_above l s k (t.SNumber z) h = h
  numbered_above l s k (t.STruth b) h = h
  numbered_above l s k t.SNull h = h
  numbered_above l s k (t.SVariable j) h = h
  numbered_above l s k (t.SBound j) h = h
  numbered_above l s k t.SThis h = h
  numbered_above l s k t.SMe h = h
  numbered_above l s k t.SResult h = h
  numbered_above l s k (t.SField x g) h = numbered_above l s k x h
  numbered_above l s k (t.SClosed x) h = numbered_above l s k x h
  numbered_above l s k (t.SOwner x) h = numbered_above l s k x h
  numbered_above l s k (t.SClaimCount x) h = numbered_above l s k x h
  numbered_above l s k (t.SNot x) h = numbered_above l s k x h
  numbered_above l s k (t.SNegate x) h = numbered_above l s k x h
  numbered_above l s k (t.SLists x) h = numbered_above l s k x h
  numbered_above l s k (t.SOld x) h = numbered_above l s k x h
  numbered_above l s k (t.SUnchanged x) h = numbered_above l s k x h
  numbered_above l s k (t.SWrapped x) h = numbered_above l s k x h
  numbered_above l s k (t.SWrapped0 x) h = numbered_above l s k x h
  numbered_above l s k (t.SMutable x) h = numbered_above l s k x h
  numbered_above l s k (t.SFresh x) h = numbered_above l s k x h
  numbered_above l s k (t.SMember x y) h = and_both (numbers_from k (numbered l s x)) (numbers_from k (numbered l s y)) (numbered_above l s k x (and_left (numbers_from k x) (numbers_from k y) h)) (numbered_above l s k y (and_right (numbers_from k x) (numbers_from k y) h))
  numbered_above l s k (t.SArithmetic o x y) h = and_both (numbers_from k (numbered l s x)) (numbers_from k (numbered l s y)) (numbered_above l s k x (and_left (numbers_from k x) (numbers_from k y) h)) (numbered_above l s k y (and_right (numbers_from k x) (numbers_from k y) h))
  numbered_above l s k (t.SCompare o x y) h = and_both (numbers_from k (numbered l s x)) (numbers_from k (numbered l s y)) (numbered_above l s k x (and_left (numbers_from k x) (numbers_from k y) h)) (numbered_above l s k y (and_right (numbers_from k x) (numbers_from k y) h))
  numbered_above l s k (t.SAnd x y) h = and_both (numbers_from k (numbered l s x)) (numbers_from k (numbered l s y)) (numbered_above l s k x (and_left (numbers_from k x) (numbers_from k y) h)) (numbered_above l s k y (and_right (numbers_from k x) (numbers_from k y) h))
  numbered_above l s k (t.SOr x y) h = and_both (numbers_from k (numbered l s x)) (numbers_from k (numbered l s y)) (numbered_above l s k x (and_left (numbers_from k x) (numbers_from k y) h)) (numbered_above l s k y (and_right (numbers_from k x) (numbers_from k y) h))
  numbered_above l s k (t.SImplies x y) h = and_both (numbers_from k (numbered l s x)) (numbers_from k (numbered l s y)) (numbered_above l s k x (and_left (numbers_from k x) (numbers_from k y) h)) (numbered_above l s k y (and_right (numbers_from k x) (numbers_from k y) h))
  numbered_above l s k (t.SIff x y) h = and_both (numbers_from k (numbered l s x)) (numbers_from k (numbered l s y)) (numbered_above l s k x (and_left (numbers_from k x) (numbers_from k y) h)) (numbered_above l s k y (and_right (numbers_from k x) (numbers_from k y) h))
  numbered_above l s k (t.SClaimsObject x y) h = and_both (numbers_from k (numbered l s x)) (numbers_from k (numbered l s y)) (numbered_above l s k x (and_left (numbers_from k x) (numbers_from k y) h)) (numbered_above l s k y (and_right (numbers_from k x) (numbers_from k y) h))
  numbered_above l s k (t.SChoose x y z) h =
      let r = and_right (numbers_from k x) (numbers_from k y && numbers_from k z) h in
      and_both (numbers_from k (numbered l s x)) (numbers_from k (numbered l s y) && numbers_from k (numbered l s z)) (numbered_above l s k x (and_left (numbers_from k x) (numbers_from k y && numbers_from k z) h))
      (and_both (numbers_from k (numbered l s y)) (numbers_from k (numbered l s z)) (numbered_above l s k y (and_left (numbers_from k y) (numbers_from k z) r)) (numbered_above l s k z (and_right (numbers_from k y) (numbers_from k z) r)))
  numbered_above l s k (t.SClaims x xs) h = and_both (numbers_from k (numbered l s x)) (all_numbers_from k (numbered_conjuncts l s xs)) (numbered_above l s k x (and_left (numbers_from k x) (all_numbers_from k xs) h)) (conjuncts_above l s k xs (and_right (numbers_from k x) (all_numbers_from k xs) h))
  numbered_above l s k (t.SHas c) h = h
  numbered_above l s k (t.SForAll n ty x y) h = h
  numbered_above l s k (t.SExists n ty x ys) h = h
  numbered_above l s k (t.SClaimsOnly n x ys) h =
      let r = and_right (nat_le k n) (numbers_from k x && all_numbers_from k ys) h in
      and_both (nat_le k n) (numbers_from k (numbered l s x) && all_numbers_from k (all_numbered l s ys)) (and_left (nat_le k n) (numbers_from k x && all_numbers_from k ys) h)
      (and_both (numbers_from k (numbered l s x)) (all_numbers_from k (all_numbered l s ys)) (numbered_above l s k x (and_left (numbers_from k x) (all_numbers_from k ys) r)) (all_numbered_above l s k ys (and_right (numbers_from k x) (all_numbers_from k ys) r)))

  all_numbered_above : (l : List Shape) (s : Sorts) (k : ℕ) (ws : Specs) → IsTrue (all_numbers_from k ws) → IsTrue (all_numbers_from k (all_numbered l s ws))
  all_numbered_above l s k Stop h = refl
  all_numbered_above l s k (With x xs) h = and_both (numbers_from k (numbered l s x)) (all_numbers_from k (all_numbered l s xs)) (numbered_above l s k x (and_left (numbers_from k x) (all_numbers_from k xs) h)) (all_numbered_above l s k xs (and_right (numbers_from k x) (all_numbers_from k xs) h))

  conjuncts_above : (l : List Shape) (s : Sorts) (k : ℕ) (ws : Specs) → IsTrue (all_numbers_from k ws) → IsTrue (all_numbers_from k (numbered_conjuncts l s ws))
  conjuncts_above l s k Stop h = refl
  conjuncts_above l s k (With (t.SLists x) xs) h = and_both (numbers_from k (numbered l s x)) (all_numbers_from k (numbered_conjuncts l s xs)) (numbered_above l s k x (and_left (numbers_from k x) (all_numbers_from k xs) h)) (conjuncts_above l s k xs (and_right (numbers_from k x) (all_numbers_from k xs) h))
  conjuncts_above l s k (With x xs) h = conjuncts_above l s k xs (and_right (numbers_from k x) (all_numbers_from k xs) h)

mutual
  pub numbered_ordered : (l : List Shape) (s : Sorts) (i : Bool) (w : Spec) → IsTrue (is_ordered i w) → IsTrue (is_ordered i (numbered l s w))
  numbered_ordered l s i (t.SNumber z) h = h
  numbered_ordered l s i (t.STruth b) h = h
  numbered_ordered l s i t.SNull h = h
  numbered_ordered l s i (t.SVariable j) h = h
  numbered_ordered l s i (t.SBound j) h = h
  numbered_ordered l s i t.SThis h = h
  numbered_ordered l s i t.SMe h = h
  numbered_ordered l s i t.SResult h = h
  numbered_ordered l s i (t.SField x g) h = numbered_ordered l s i x h
  numbered_ordered l s i (t.SClosed x) h = numbered_ordered l s i x h
  numbered_ordered l s i (t.SOwner x) h = numbered_ordered l s i x h
  numbered_ordered l s i (t.SClaimCount x) h = numbered_ordered l s i x h
  numbered_ordered l s i (t.SNot x) h = numbered_ordered l s i x h
  numbered_ordered l s i (t.SNegate x) h = numbered_ordered l s i x h
  numbered_ordered l s i (t.SLists x) h = numbered_ordered l s i x h
  numbered_ordered l s i (t.SOld x) h = numbered_ordered l s i x h
  numbered_ordered l s i (t.SUnchanged x) h = numbered_ordered l s i x h
  numbered_ordered l s i (t.SWrapped x) h = numbered_ordered l s i x h
  numbered_ordered l s i (t.SWrapped0 x) h = numbered_ordered l s i x h
  numbered_ordered l s i (t.SMutable x) h = numbered_ordered l s i x h
  numbered_ordered l s i (t.SFresh x) h = numbered_ordered l s i x h
  numbered_ordered l s i (t.SMember x y) h = and_both (is_ordered i (numbered l s x)) (is_ordered i (numbered l s y)) (numbered_ordered l s i x (and_left (is_ordered i x) (is_ordered i y) h)) (numbered_ordered l s i y (and_right (is_ordered i x) (is_ordered i y) h))
  numbered_ordered l s i (t.SArithmetic o x y) h = and_both (is_ordered i (numbered l s x)) (is_ordered i (numbered l s y)) (numbered_ordered l s i x (and_left (is_ordered i x) (is_ordered i y) h)) (numbered_ordered l s i y (and_right (is_ordered i x) (is_ordered i y) h))
  numbered_ordered l s i (t.SCompare o x y) h = and_both (is_ordered i (numbered l s x)) (is_ordered i (numbered l s y)) (numbered_ordered l s i x (and_left (is_ordered i x) (is_ordered i y) h)) (numbered_ordered l s i y (and_right (is_ordered i x) (is_ordered i y) h))
  numbered_ordered l s i (t.SAnd x y) h = and_both (is_ordered i (numbered l s x)) (is_ordered i (numbered l s y)) (numbered_ordered l s i x (and_left (is_ordered i x) (is_ordered i y) h)) (numbered_ordered l s i y (and_right (is_ordered i x) (is_ordered i y) h))
  numbered_ordered l s i (t.SOr x y) h = and_both (is_ordered i (numbered l s x)) (is_ordered i (numbered l s y)) (numbered_ordered l s i x (and_left (is_ordered i x) (is_ordered i y) h)) (numbered_ordered l s i y (and_right (is_ordered i x) (is_ordered i y) h))
  numbered_ordered l s i (t.SImplies x y) h = and_both (is_ordered i (numbered l s x)) (is_ordered i (numbered l s y)) (numbered_ordered l s i x (and_left (is_ordered i x) (is_ordered i y) h)) (numbered_ordered l s i y (and_right (is_ordered i x) (is_ordered i y) h))
  numbered_ordered l s i (t.SIff x y) h = and_both (is_ordered i (numbered l s x)) (is_ordered i (numbered l s y)) (numbered_ordered l s i x (and_left (is_ordered i x) (is_ordered i y) h)) (numbered_ordered l s i y (and_right (is_ordered i x) (is_ordered i y) h))
  numbered_ordered l s i (t.SClaimsObject x y) h = and_both (is_ordered i (numbered l s x)) (is_ordered i (numbered l s y)) (numbered_ordered l s i x (and_left (is_ordered i x) (is_ordered i y) h)) (numbered_ordered l s i y (and_right (is_ordered i x) (is_ordered i y) h))
  numbered_ordered l s i (t.SChoose x y z) h =
      let r = and_right (is_ordered i x) (is_ordered i y && is_ordered i z) h in
      and_both (is_ordered i (numbered l s x)) (is_ordered i (numbered l s y) && is_ordered i (numbered l s z)) (numbered_ordered l s i x (and_left (is_ordered i x) (is_ordered i y && is_ordered i z) h))
      (and_both (is_ordered i (numbered l s y)) (is_ordered i (numbered l s z)) (numbered_ordered l s i y (and_left (is_ordered i y) (is_ordered i z) r)) (numbered_ordered l s i z (and_right (is_ordered i y) (is_ordered i z) r)))
  numbered_ordered l s i (t.SClaims x xs) h = and_both (is_ordered i (numbered l s x)) (are_ordered true (numbered_conjuncts l s xs)) (numbered_ordered l s i x (and_left (is_ordered i x) (are_ordered true xs) h)) (conjuncts_ordered l s true xs (and_right (is_ordered i x) (are_ordered true xs) h))
  numbered_ordered l s i (t.SHas c) h = h
  numbered_ordered l s true (t.SForAll n ty x y) h = never h
  numbered_ordered l s false (t.SForAll n ty x y) h =
      let r = and_right (is_ref_type ty) ((numbers_from (suc n) x && numbers_from (suc n) y) && (is_ordered false x && is_ordered false y)) h in
      let a = and_left (numbers_from (suc n) x && numbers_from (suc n) y) (is_ordered false x && is_ordered false y) r in
      let b = and_right (numbers_from (suc n) x && numbers_from (suc n) y) (is_ordered false x && is_ordered false y) r in
      and_both (is_ref_type ty) _ (and_left (is_ref_type ty) ((numbers_from (suc n) x && numbers_from (suc n) y) && (is_ordered false x && is_ordered false y)) h)
      (and_both (numbers_from (suc n) (numbered l s x) && numbers_from (suc n) (numbered l s y)) (is_ordered false (numbered l s x) && is_ordered false (numbered l s y))
      (and_both (numbers_from (suc n) (numbered l s x)) (numbers_from (suc n) (numbered l s y)) (numbered_above l s (suc n) x (and_left (numbers_from (suc n) x) (numbers_from (suc n) y) a)) (numbered_above l s (suc n) y (and_right (numbers_from (suc n) x) (numbers_from (suc n) y) a)))
      (and_both (is_ordered false (numbered l s x)) (is_ordered false (numbered l s y)) (numbered_ordered l s false x (and_left (is_ordered false x) (is_ordered false y) b)) (numbered_ordered l s false y (and_right (is_ordered false x) (is_ordered false y) b))))
  numbered_ordered l s true (t.SExists n ty x ys) h = never h
  numbered_ordered l s false (t.SExists n ty x ys) h =
      let r = and_right (is_ref_type ty) ((numbers_from (suc n) x && all_numbers_from (suc n) ys) && (is_ordered false x && are_ordered false ys)) h in
      let a = and_left (numbers_from (suc n) x && all_numbers_from (suc n) ys) (is_ordered false x && are_ordered false ys) r in
      let b = and_right (numbers_from (suc n) x && all_numbers_from (suc n) ys) (is_ordered false x && are_ordered false ys) r in
      and_both (is_ref_type ty) _ (and_left (is_ref_type ty) ((numbers_from (suc n) x && all_numbers_from (suc n) ys) && (is_ordered false x && are_ordered false ys)) h)
      (and_both (numbers_from (suc n) (numbered l s x) && all_numbers_from (suc n) (all_numbered l s ys)) (is_ordered false (numbered l s x) && are_ordered false (all_numbered l s ys))
      (and_both (numbers_from (suc n) (numbered l s x)) (all_numbers_from (suc n) (all_numbered l s ys)) (numbered_above l s (suc n) x (and_left (numbers_from (suc n) x) (all_numbers_from (suc n) ys) a)) (all_numbered_above l s (suc n) ys (and_right (numbers_from (suc n) x) (all_numbers_from (suc n) ys) a)))
      (and_both (is_ordered false (numbered l s x)) (are_ordered false (all_numbered l s ys)) (numbered_ordered l s false x (and_left (is_ordered false x) (are_ordered false ys) b)) (all_numbered_ordered l s false ys (and_right (is_ordered false x) (are_ordered false ys) b))))
  numbered_ordered l s true (t.SClaimsOnly n x ys) h = never h
  numbered_ordered l s false (t.SClaimsOnly n x ys) h =
      let a = and_left (numbers_from (suc n) x && all_numbers_from (suc n) ys) (is_ordered false x && are_ordered false ys) h in
      let b = and_right (numbers_from (suc n) x && all_numbers_from (suc n) ys) (is_ordered false x && are_ordered false ys) h in
      and_both (numbers_from (suc n) (numbered l s x) && all_numbers_from (suc n) (all_numbered l s ys)) (is_ordered false (numbered l s x) && are_ordered false (all_numbered l s ys))
      (and_both (numbers_from (suc n) (numbered l s x)) (all_numbers_from (suc n) (all_numbered l s ys)) (numbered_above l s (suc n) x (and_left (numbers_from (suc n) x) (all_numbers_from (suc n) ys) a)) (all_numbered_above l s (suc n) ys (and_right (numbers_from (suc n) x) (all_numbers_from (suc n) ys) a)))
      (and_both (is_ordered false (numbered l s x)) (are_ordered false (all_numbered l s ys)) (numbered_ordered l s false x (and_left (is_ordered false x) (are_ordered false ys) b)) (all_numbered_ordered l s false ys (and_right (is_ordered false x) (are_ordered false ys) b)))

  all_numbered_ordered : (l : List Shape) (s : Sorts) (i : Bool) (ws : Specs) → IsTrue (are_ordered i ws) → IsTrue (are_ordered i (all_numbered l s ws))
  all_numbered_ordered l s i Stop h = refl
  all_numbered_ordered l s i (With x xs) h = and_both (is_ordered i (numbered l s x)) (are_ordered i (all_numbered l s xs)) (numbered_ordered l s i x (and_left (is_ordered i x) (are_ordered i xs) h)) (all_numbered_ordered l s i xs (and_right (is_ordered i x) (are_ordered i xs) h))

  conjuncts_ordered : (l : List Shape) (s : Sorts) (i : Bool) (ws : Specs) → IsTrue (are_ordered i ws) → IsTrue (are_ordered i (numbered_conjuncts l s ws))
  conjuncts_ordered l s i Stop h = refl
  conjuncts_ordered l s i (With (t.SLists x) xs) h = and_both (is_ordered i (numbered l s x)) (are_ordered i (numbered_conjuncts l s xs)) (numbered_ordered l s i x (and_left (is_ordered i x) (are_ordered i xs) h)) (conjuncts_ordered l s i xs (and_right (is_ordered i x) (are_ordered i xs) h))
  conjuncts_ordered l s i (With x xs) h = conjuncts_ordered l s i xs (and_right (is_ordered i x) (are_ordered i xs) h)

-- ---- expressions of a source

-- the formulas have numbers from k on, and are in order
abbrev Well : ℕ → Spec → Type 0
Well k w = IsTrue (numbers_from k w) × IsTrue (is_ordered false w)

abbrev AllWell : ℕ → Specs → Type 0
AllWell k ws = IsTrue (all_numbers_from k ws) × IsTrue (are_ordered false ws)

well_plain : (k : ℕ) (w : Spec) → IsTrue (plain w) → Well k w
well_plain k w h = (plain_above k w h, plain_ordered false w h)

two : (k : ℕ) (v w : Spec) → Well k v → Well k w → IsTrue (numbers_from k v && numbers_from k w) × IsTrue (is_ordered false v && is_ordered false w)
two k v w h j = (and_both (numbers_from k v) (numbers_from k w) h.0 j.0, and_both (is_ordered false v) (is_ordered false w) h.1 j.1)

more : (k : ℕ) (v : Spec) (ws : Specs) → Well k v → AllWell k ws → IsTrue (numbers_from k v && all_numbers_from k ws) × IsTrue (is_ordered false v && are_ordered false ws)
more k v ws h j = (and_both (numbers_from k v) (all_numbers_from k ws) h.0 j.0, and_both (is_ordered false v) (are_ordered false ws) h.1 j.1)

well_name : (k : ℕ) (m : Meaning) → Well k (name m)
well_name k (OfQuantifier i) = (refl, refl)
well_name k (OfFunction i) = (refl, refl)
well_name k (OwnField i) = (refl, refl)

well_word : (k : ℕ) (c : Constant) → Well k (word c)
well_word k constants.True = (refl, refl)
well_word k constants.False = (refl, refl)
well_word k constants.This = (refl, refl)
well_word k constants.Me = (refl, refl)
well_word k constants.Result = (refl, refl)

well_status : (k : ℕ) (u : Status) (w : Spec) → Well k w → Well k (status u w)
well_status k statuses.Closed w h = h
well_status k statuses.Owner w h = h
well_status k statuses.ClaimCount w h = h

well_negation : (k : ℕ) (o : UnaryOperator) (w : Spec) → Well k w → Well k (negation o w)
well_negation k unary.Not w h = h
well_negation k unary.Negate w h = h

well_applied : (k : ℕ) (g : SpecFunction) (w : Spec) → Well k w → Well k (applied g w)
well_applied k f.Old w h = h
well_applied k f.Unchanged w h = h
well_applied k f.Wrapped w h = h
well_applied k f.WrappedUnclaimed w h = h
well_applied k f.Mutable w h = h
well_applied k f.Fresh w h = h

well_joined : (k : ℕ) (b : Binary) (v w : Spec) → Well k v → Well k w → Well k (joined b v w)
well_joined k (Computes o) v w h j = two k v w h j
well_joined k (Compares o) v w h j = two k v w h j
well_joined k IsAnd v w h j = two k v w h j
well_joined k IsOr v w h j = two k v w h j
well_joined k IsImplies v w h j = two k v w h j
well_joined k IsIff v w h j = two k v w h j
well_joined k IsMember v w h j = two k v w h j

well_and_all : (k : ℕ) (w : Spec) (ws : Specs) → Well k w → AllWell k ws → Well k (and_all w ws)
well_and_all k w Stop h j = h
well_and_all k w (With v vs) h j = two k w (and_all v vs) h (well_and_all k v vs (and_left (numbers_from k v) (all_numbers_from k vs) j.0, and_left (is_ordered false v) (are_ordered false vs) j.1) (and_right (numbers_from k v) (all_numbers_from k vs) j.0, and_right (is_ordered false v) (are_ordered false vs) j.1))

well_all_hold : (k : ℕ) (ws : Specs) → AllWell k ws → Well k (all_hold ws)
well_all_hold k Stop h = (refl, refl)
well_all_hold k (With w ws) h = well_and_all k w ws (and_left (numbers_from k w) (all_numbers_from k ws) h.0, and_left (is_ordered false w) (are_ordered false ws) h.1) (and_right (numbers_from k w) (all_numbers_from k ws) h.0, and_right (is_ordered false w) (are_ordered false ws) h.1)

well_append : (k : ℕ) (vs ws : Specs) → AllWell k vs → AllWell k ws → AllWell k (append vs ws)
well_append k Stop ws h j = j
well_append k (With v vs) ws h j =
    more k v (append vs ws) (and_left (numbers_from k v) (all_numbers_from k vs) h.0, and_left (is_ordered false v) (are_ordered false vs) h.1)
    (well_append k vs ws (and_right (numbers_from k v) (all_numbers_from k vs) h.0, and_right (is_ordered false v) (are_ordered false vs) h.1) j)

one_well : (k : ℕ) (w : Spec) → Well k w → AllWell k (With w Stop)
one_well k w h = more k w Stop h (refl, refl)

refers_type : (items : List Item) (ty : Ty) → IsTrue (refers ty) → IsTrue (is_ref_type (declared_type items ty))
refers_type items (e.Integer c) h = never h
refers_type items (e.Pointer x) h = refl
refers_type items e.Object h = refl
refers_type items e.Claim h = refl

well_for_all : (k n : ℕ) (ty : DeclaredType) (v w : Spec) → k ≤ n → IsTrue (is_ref_type ty) → Well (suc n) v → Well (suc n) w → Well k (t.SForAll n ty v w)
well_for_all k n ty v w l g h j =
    let z = two (suc n) v w h j in
    (le-leb k n l, and_both (is_ref_type ty) _ g (and_both (numbers_from (suc n) v && numbers_from (suc n) w) (is_ordered false v && is_ordered false w) z.0 z.1))

well_exists : (k n : ℕ) (ty : DeclaredType) (v : Spec) (ws : Specs) → k ≤ n → IsTrue (is_ref_type ty) → Well (suc n) v → AllWell (suc n) ws → Well k (t.SExists n ty v ws)
well_exists k n ty v ws l g h j =
    let z = more (suc n) v ws h j in
    (le-leb k n l, and_both (is_ref_type ty) _ g (and_both (numbers_from (suc n) v && all_numbers_from (suc n) ws) (is_ordered false v && are_ordered false ws) z.0 z.1))

further : (k n m : ℕ) → k ≤ n → k ≤ n + m
further k n m l = omega (arith, l)

mutual
  pub well_spec : (a : Around) (k n : ℕ) → k ≤ n → (x : Exp) → IsTrue (fit x) → Well k (spec a n x)
  well_spec a k n l (e.Number p v ty) h = (refl, refl)
  well_spec a k n l (e.Name x) h = well_name k (meaning a x)
  well_spec a k n l (e.Null p) h = (refl, refl)
  well_spec a k n l (e.Word p w) h = well_word k w
  well_spec a k n l (e.Group p x) h = well_spec a k n l x h
  well_spec a k n l (e.Field p x y) h = well_spec a k n l x h
  well_spec a k n l (e.State p x u st) h = well_status k st (spec a n x) (well_spec a k n l x h)
  well_spec a k n l (e.Owns p x u) h = well_spec a k n l x h
  well_spec a k n l (e.Unary p o x) h = well_negation k o (spec a n x) (well_spec a k n l x h)
  well_spec a k n l (e.Binary p o x y) h = well_joined k (binary o) (spec a n x) (spec a (n + formulas x) y) (well_spec a k n l x (and_left (fit x) (fit y) h)) (well_spec a k (n + formulas x) (further k n (formulas x) l) y (and_right (fit x) (fit y) h))
  well_spec a k n l (e.Conditional p x y z) h =
      let rest = and_right (fit x) (fit y && fit z) h in
      let v = spec a (n + formulas x) y in
      let w = spec a (n + (formulas x + formulas y)) z in
      let c = well_spec a k n l x (and_left (fit x) (fit y && fit z) h) in
      let d = two k v w (well_spec a k (n + formulas x) (further k n (formulas x) l) y (and_left (fit y) (fit z) rest)) (well_spec a k (n + (formulas x + formulas y)) (further k n (formulas x + formulas y) l) z (and_right (fit y) (fit z) rest)) in
      (and_both (numbers_from k (spec a n x)) (numbers_from k v && numbers_from k w) c.0 d.0, and_both (is_ordered false (spec a n x)) (is_ordered false v && is_ordered false w) c.1 d.1)
  well_spec a k n l (e.Apply p g x) h = well_applied k g (spec a n x) (well_spec a k n l x h)
  well_spec a k n l (e.Several p lists.Mine xs) h = well_all_hold k (members a n xs) (well_members a k n l xs h)
  well_spec a k n l (e.Several p lists.ClaimsOnly xs) h = well_claims a k n l xs h
  well_spec a k n l (e.Approves p x) h = (refl, refl)
  well_spec a k n l (e.ClaimsObject p x y) h = two k (spec a n x) (spec a (n + formulas x) y) (well_spec a k n l x (and_left (fit x) (fit y) h)) (well_spec a k (n + formulas x) (further k n (formulas x) l) y (and_right (fit x) (fit y) h))
  well_spec a k n l (e.Claims p x y) h =
      let row = conjuncts a (n + formulas x) y (spec a (n + formulas x) y) in
      let c = well_spec a k n l x (and_left (fit x) (held y && fit y) h) in
      let z = and_right (neat (spec a n x)) (row_plain row) (neat_spec a n (e.Claims p x y) h) in
      (and_both (numbers_from k (spec a n x)) (all_numbers_from k row) c.0 (row_above k row z), and_both (is_ordered false (spec a n x)) (are_ordered true row) c.1 (row_ordered true row z))
  well_spec a k n l (e.Quantified p q.ForAll ty x y) h = well_all a (within_quantifier ty x a) k n l (declared_type a.context.scope.items ty) (refers_type a.context.scope.items ty (and_left (refers ty) (fit y) h)) y (and_right (refers ty) (fit y) h)
  well_spec a k n l (e.Quantified p q.Exists ty x y) h = well_some a (within_quantifier ty x a) k n l (declared_type a.context.scope.items ty) (refers_type a.context.scope.items ty (and_left (refers ty) (fit y) h)) y (and_right (refers ty) (fit y) h)

  well_members : (a : Around) (k n : ℕ) → k ≤ n → (xs : Exps) → IsTrue (all_fit xs) → AllWell k (members a n xs)
  well_members a k n l e.Stop h = (refl, refl)
  well_members a k n l (e.With x xs) h =
      more k (t.SMember (spec a n x) t.SThis) (members a (n + formulas x) xs) (two k (spec a n x) t.SThis (well_spec a k n l x (and_left (fit x) (all_fit xs) h)) (refl, refl)) (well_members a k (n + formulas x) (further k n (formulas x) l) xs (and_right (fit x) (all_fit xs) h))

  well_claims : (a : Around) (k n : ℕ) → k ≤ n → (xs : Exps) → IsTrue (all_fit xs) → Well k (claims_only a n xs)
  well_claims a k n l e.Stop h = (refl, refl)
  well_claims a k n l (e.With x xs) h =
      let v = spec a (1 + n) x in
      let ws = each_spec a (1 + (n + formulas x)) xs in
      let own = and_left (fit x) (all_fit xs) h in
      let rest = and_right (fit x) (all_fit xs) h in
      let low = more k v ws (well_spec a k (1 + n) (omega (arith, l)) x own) (well_each a k (1 + (n + formulas x)) (omega (arith, l)) xs rest) in
      let high = more (suc n) v ws (well_spec a (suc n) (1 + n) (omega arith) x own) (well_each a (suc n) (1 + (n + formulas x)) (omega arith) xs rest) in
      (and_both (nat_le k n) (numbers_from k v && all_numbers_from k ws) (le-leb k n l) low.0, and_both (numbers_from (suc n) v && all_numbers_from (suc n) ws) (is_ordered false v && are_ordered false ws) high.0 high.1)

  well_each : (a : Around) (k n : ℕ) → k ≤ n → (xs : Exps) → IsTrue (all_fit xs) → AllWell k (each_spec a n xs)
  well_each a k n l e.Stop h = (refl, refl)
  well_each a k n l (e.With x xs) h =
      more k (spec a n x) (each_spec a (n + formulas x) xs) (well_spec a k n l x (and_left (fit x) (all_fit xs) h)) (well_each a k (n + formulas x) (further k n (formulas x) l) xs (and_right (fit x) (all_fit xs) h))

  well_all : (a b : Around) (k n : ℕ) → k ≤ n → (ty : DeclaredType) → IsTrue (is_ref_type ty) → (x : Exp) → IsTrue (fit x) → Well k (for_all a b n ty x)
  well_all a b k n l ty g (e.Group p x) h = well_all a b k n l ty g x h
  well_all a b k n l ty g (e.Binary p op.Implies x y) h =
      well_for_all k n ty (owner a (1 + n) x) (spec b (1 + (n + formulas x)) y) l g (well_owner a (suc n) (1 + n) (omega arith) x (and_left (fit x) (fit y) h)) (well_spec b (suc n) (1 + (n + formulas x)) (omega arith) y (and_right (fit x) (fit y) h))
  well_all a b k n l ty g (e.Binary p _ x y) h = (refl, refl)
  well_all a b k n l ty g _ h = (refl, refl)

  well_some : (a b : Around) (k n : ℕ) → k ≤ n → (ty : DeclaredType) → IsTrue (is_ref_type ty) → (x : Exp) → IsTrue (fit x) → Well k (exists a b n ty x)
  well_some a b k n l ty g (e.Group p x) h = well_some a b k n l ty g x h
  well_some a b k n l ty g (e.Binary p op.And x y) h =
      let last = With (spec b (1 + (n + formulas x)) y) Stop in
      well_exists k n ty (owner_first a (1 + n) x) (append (others b (1 + n) x) last) l g (well_first a (suc n) (1 + n) (omega arith) x (and_left (fit x) (fit y) h))
      (well_append (suc n) (others b (1 + n) x) last (well_others b (suc n) (1 + n) (omega arith) x (and_left (fit x) (fit y) h)) (one_well (suc n) (spec b (1 + (n + formulas x)) y) (well_spec b (suc n) (1 + (n + formulas x)) (omega arith) y (and_right (fit x) (fit y) h))))
  well_some a b k n l ty g (e.Binary p _ x y) h = (refl, refl)
  well_some a b k n l ty g _ h = (refl, refl)

  well_owner : (a : Around) (k n : ℕ) → k ≤ n → (x : Exp) → IsTrue (fit x) → Well k (owner a n x)
  well_owner a k n l (e.Group p x) h = well_owner a k n l x h
  well_owner a k n l (e.Binary p op.In x y) h = well_spec a k (n + formulas x) (further k n (formulas x) l) y (and_right (fit x) (fit y) h)
  well_owner a k n l (e.Binary p _ x y) h = (refl, refl)
  well_owner a k n l _ h = (refl, refl)

  well_first : (a : Around) (k n : ℕ) → k ≤ n → (x : Exp) → IsTrue (fit x) → Well k (owner_first a n x)
  well_first a k n l (e.Group p x) h = well_owner a k n l x h
  well_first a k n l (e.Binary p op.In x y) h = well_spec a k (n + formulas x) (further k n (formulas x) l) y (and_right (fit x) (fit y) h)
  well_first a k n l (e.Binary p op.And x y) h = well_first a k n l x (and_left (fit x) (fit y) h)
  well_first a k n l (e.Binary p _ x y) h = (refl, refl)
  well_first a k n l _ h = (refl, refl)

  well_others : (b : Around) (k n : ℕ) → k ≤ n → (x : Exp) → IsTrue (fit x) → AllWell k (others b n x)
  well_others b k n l (e.Binary p op.And x y) h =
      well_append k (others b n x) (With (spec b (n + formulas x) y) Stop) (well_others b k n l x (and_left (fit x) (fit y) h)) (one_well k (spec b (n + formulas x) y) (well_spec b k (n + formulas x) (further k n (formulas x) l) y (and_right (fit x) (fit y) h)))
  well_others b k n l (e.Binary p _ x y) h = (refl, refl)
  well_others b k n l _ h = (refl, refl)

-- with its shapes numbered too
pub spec_ordered : (l : List Shape) (s : Sorts) (a : Around) (n : ℕ) (x : Exp) → IsTrue (fit x) → IsTrue (is_ordered false (numbered l s (spec a n x)))
spec_ordered l s a n x h = numbered_ordered l s false (spec a n x) (well_spec a n n (omega arith) x h).1
