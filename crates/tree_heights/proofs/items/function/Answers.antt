use Rattle.std.proofs.Common.{◌≡◌, suc, arith, ap, map}
use Rattle.c_syntax.specs.Views.{stm, clause, function}
use Rattle.tree_heights.specs.Heights as h
use Rattle.tree_heights.specs.Parts as p
use Rattle.tree_heights.proofs.Vectors.{body}
use Rattle.tree_heights.proofs.items.function.Goals as goal

pub greatest_statement-block-requires : goal.greatest_statement-block-requires
greatest_statement-block-requires c = record { few = let e = ap (λ xs. p.all p.statement (map stm xs)) c.deref.ensures.value in omega (arith, c.requires.few, body c.args.x.now.body.items) }

pub overflow_add-block : goal.overflow_add-block
overflow_add-block c = let e = ap (λ xs. p.all p.statement (map stm xs)) c.deref.ensures.value in omega (arith, c.requires.few, body c.args.x.now.body.items)

pub overflow_add-result : goal.overflow_add-result
overflow_add-result c =
    let e = ap (λ xs. p.all p.statement (map stm xs)) c.deref.ensures.value in
    let f = ap (λ xs. p.all p.clause (map clause xs)) c.deref-2.ensures.value in
    omega (arith, c.requires.few, body c.args.x.now.body.items)

pub returns-clause-high : goal.returns-clause-high
returns-clause-high c =
    let e = ap (λ xs. h.greatest h.statement (map stm xs)) c.deref.ensures.value in
    let f = ap (λ xs. h.greatest h.clause (map clause xs)) c.deref-2.ensures.value in
    let b : h.block (function c.args.x.now).body ≡ suc (h.greatest h.statement (map stm c.args.x.now.body.items)) = ap suc (body c.args.x.now.body.items).0 in
    omega arith

pub returns-clause-low : goal.returns-clause-low
returns-clause-low c =
    let e = ap (λ xs. p.all p.statement (map stm xs)) c.deref.ensures.value in
    let f = ap (λ xs. p.all p.clause (map clause xs)) c.deref-2.ensures.value in
    omega (arith, body c.args.x.now.body.items)
