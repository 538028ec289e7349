use Rattle.std.proofs.Common.{◌<◌, ℕ, List, length, reverse, ap, ◌∙◌, arith}
use Rattle.c_syntax.specs.Views as view
use Rattle.typing_spec.specs.Declarations as spec
use Rattle.typing_symbols.specs.Hidden.{innermost}
use Rattle.typing_symbols.specs.Scopes.{variable}
use Rattle.typing_symbols.proofs.Nesting.{find_inner, inner_within}
use Rattle.typing_symbols.proofs.Places.{lookup_none, lookup_one}
use Rattle.typing_symbols.proofs.variables.Variables.find.Goals as goal

pub returns-in_err-place : goal.returns-in_err-place
returns-in_err-place c =
    let all = c.args.self.now.all.items in
    let name = c.args.name.now.name.items in
    rw c.from_residual.ensures
    (lookup_none (λ h. variable h.variable) (λ v. spec.same_name v.name (view.id c.args.name.now)) (reverse all) all (innermost name (reverse all)) (find_inner name all)
    (c.in_err-place.ensures.value ∙ c.args.self.now.found c.as_slice.result.now ∙ ap (λ (b : List ℕ). innermost b (reverse all)) c.as_slice.ensures.value))

pub index-requires : goal.index-requires
index-requires c =
    let all = c.args.self.now.all.items in
    let inside : c.in_ok-place.field-0.now < length all = inner_within c.as_slice.result.now all _ (c.in_ok-place.ensures.value ∙ c.args.self.now.found c.as_slice.result.now) in
    omega arith

pub returns : goal.returns
returns c =
    let all = c.args.self.now.all.items in
    let name = c.args.name.now.name.items in
    let place = c.in_ok-place.ensures.value ∙ c.args.self.now.found c.as_slice.result.now in
    lookup_one (λ h. variable h.variable) (λ v. spec.same_name v.name (view.id c.args.name.now)) (reverse all) all (innermost name (reverse all)) (find_inner name all) _ c.index.result.now
    (place ∙ ap (λ (b : List ℕ). innermost b (reverse all)) c.as_slice.ensures.value)
    (inner_within c.as_slice.result.now all _ place)
    c.index.ensures
