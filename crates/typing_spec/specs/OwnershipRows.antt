-- Worked rows: owned sets, claims and invariants. Each is a text with the number of its first broken rule, which stands at the first word of the second part, or one that breaks none.
use Rattle.std.specs.Prelude.{Bool, true, List, [], ◌∷◌}
use Rattle.std.specs.List.{list_all}
use Rattle.std.proofs.Common.{◌≡◌, refl}
use Rattle.ebnf.specs.Sets.{first, first_rule, low, low_rule, is_empty}
use Rattle.ebnf.specs.Reading.{read, links, climbs, read_rule, reads}
use Rattle.typing_spec.specs.Reading.{breaks, types}

-- rules 12 and 13: owned sets and wrapping
abbrev owned : List Bool
owned =
    breaks 12 "struct A { int v ; } ; void main ( struct A * p ) { _( ghost p ->" "\\owns = { } ; ) }" ∷
    breaks 12 "_( claimable ) struct A { int v ; } ; void main ( struct A * p ) { _( ghost p ->" "\\owns += p ; ) }" ∷
    types "_( dynamic_owns ) struct A { int v ; } ; void main ( struct A * p ) { _( ghost p -> \\owns = { } ; ) }" ∷
    types "_( volatile_owns ) struct A { int v ; } ; void main ( struct A * p ) { _( ghost p -> \\owns = { } ; ) }" ∷
    breaks 12 "_( dynamic_owns ) struct A { int v ; } ; void main ( struct A * p ) { _( atomic p ) { _( ghost p ->" "\\owns += p ; ) } }" ∷
    breaks 12 "_( volatile_owns ) struct A { int v ; } ; void main ( struct A * p ) { _( atomic p ) { _( ghost p ->" "\\owns = { p } ; ) } }" ∷
    types "_( volatile_owns ) struct A { int v ; } ; void main ( struct A * p ) { _( atomic p ) { _( ghost p -> \\owns += { p } ; ) } }" ∷
    breaks 13 "struct A { int v ; } ; void main ( struct A * p ) { _( wrap" "NULL ) }" ∷
    breaks 13 "struct A { int v ; } ; void main ( struct A * p ) { _( unwrap" "1 ) }" ∷
    types "struct A { int v ; } ; void main ( struct A * p ) { _( wrap p ) _( unwrap p ) }" ∷
    breaks 13 "void main ( _( ghost \\object o ) ) { _( wrap" "o ) }" ∷
    breaks 13 "void main ( _( ghost \\claim o ) ) { _( unwrapping" "o ) { } }" ∷
    breaks 13 "void main ( _( ghost \\object o ) ) { _( ghost _( unwrap" "o ) ) }" ∷
    types "struct A { int v ; } ; void main ( struct A * p ) { _( ghost _( wrap p ) ) _( unwrapping p ) { } }" ∷
    []

owned_hold : list_all (λ b. b) owned ≡ true
unfolding reads read links climbs read_rule first first_rule low low_rule is_empty
owned_hold = refl

-- rule 14: what is claimed
abbrev claims : List Bool
claims =
    breaks 14 "struct A { int v ; } ; void main ( struct A * p , struct A * q _( ghost \\claim c ) _( ghost \\object o ) ) { _( ghost c = \\make_claim ( {" "p } , \\true ) ; ) }" ∷
    types "_( claimable ) struct A { int v ; } ; void main ( struct A * p , struct A * q _( ghost \\claim c ) _( ghost \\object o ) ) { _( ghost c = \\make_claim ( { p } , \\true ) ; ) }" ∷
    breaks 14 "_( claimable ) struct A { int v ; } ; void main ( struct A * p , struct A * q _( ghost \\claim c ) _( ghost \\object o ) ) { _( ghost c = \\make_claim ( { p ," "c } , \\true ) ; ) }" ∷
    types "struct A { int v ; } ; void main ( struct A * p , struct A * q _( ghost \\claim c ) _( ghost \\object o ) ) { _( ghost c = \\make_claim ( { o , NULL } , \\true ) ; ) }" ∷
    types "struct A { int v ; } ; void main ( struct A * p , struct A * q _( ghost \\claim c ) _( ghost \\object o ) ) { _( ghost \\destroy_claim ( c , { p , c } ) ; ) }" ∷
    []

claims_hold : list_all (λ b. b) claims ≡ true
unfolding reads read links climbs read_rule first first_rule low low_rule is_empty
claims_hold = refl

-- rule 20: properties of claims
abbrev properties : List Bool
properties =
    breaks 20 "_( claimable ) struct A { int v ; } ; void main ( struct A * p , struct A * q _( ghost \\claim c ) _( ghost \\object o ) ) { _( ghost c = \\make_claim ( { p } ," "\\forall \\object r ; r \\in p -> \\owns ==> r == p ) ; ) }" ∷
    breaks 20 "_( claimable ) struct A { int v ; } ; void main ( struct A * p , struct A * q _( ghost \\claim c ) _( ghost \\object o ) ) { _( assert \\claims ( c , 1 &&" "\\exists \\object r ; r \\in p -> \\owns && r == p ) ) }" ∷
    breaks 20 "_( claimable ) struct A { int v ; } ; void main ( struct A * p , struct A * q _( ghost \\claim c ) _( ghost \\object o ) ) { _( ghost c = \\make_claim ( { p } , q \\in p ->" "\\owns ) ; ) }" ∷
    breaks 20 "_( claimable ) struct A { int v ; } ; void main ( struct A * p , struct A * q _( ghost \\claim c ) _( ghost \\object o ) ) { _( ghost c = \\make_claim ( { p } , p ->" "\\owner == q ) ; ) }" ∷
    breaks 20 "_( claimable ) struct A { int v ; } ; void main ( struct A * p , struct A * q _( ghost \\claim c ) _( ghost \\object o ) ) { _( assert \\claims ( c ," "\\wrapped ( p ) ) ) }" ∷
    breaks 20 "_( claimable ) struct A { int v ; } ; void main ( struct A * p , struct A * q _( ghost \\claim c ) _( ghost \\object o ) ) { _( assert \\claims ( c , !" "\\wrapped0 ( p ) ) ) }" ∷
    breaks 20 "_( claimable ) struct A { int v ; } ; void main ( struct A * p , struct A * q _( ghost \\claim c ) _( ghost \\object o ) ) { _( ghost c = \\make_claim ( { p } ," "\\mutable ( p ) ) ; ) }" ∷
    types "_( claimable ) struct A { int v ; } ; void main ( struct A * p , struct A * q _( ghost \\claim c ) _( ghost \\object o ) ) { _( ghost c = \\make_claim ( { p } , p -> \\claim_count == 1 && p -> v == 1 ) ; ) }" ∷
    types "_( claimable ) struct A { int v ; } ; void main ( struct A * p , struct A * q _( ghost \\claim c ) _( ghost \\object o ) ) { _( ghost c = \\make_claim ( { p } , p -> \\closed ) ; ) }" ∷
    types "_( claimable ) struct A { int v ; } ; void main ( struct A * p , struct A * q _( ghost \\claim c ) _( ghost \\object o ) ) { _( ghost c = \\make_claim ( { p } , 1 && ( p -> \\closed && 1 ) ) ; ) }" ∷
    types "_( claimable ) struct A { int v ; } ; void main ( struct A * p , struct A * q _( ghost \\claim c ) _( ghost \\object o ) ) { _( ghost c = \\make_claim ( { p } , ( p ) -> \\closed ) ; ) }" ∷
    breaks 20 "_( claimable ) struct A { int v ; } ; void main ( struct A * p , struct A * q _( ghost \\claim c ) _( ghost \\object o ) ) { _( ghost c = \\make_claim ( { p } , p ->" "\\closed || 1 ) ; ) }" ∷
    breaks 20 "_( claimable ) struct A { int v ; } ; void main ( struct A * p , struct A * q _( ghost \\claim c ) _( ghost \\object o ) ) { _( ghost c = \\make_claim ( { p } , 1 && ! p ->" "\\closed ) ; ) }" ∷
    breaks 20 "_( claimable ) struct A { int v ; } ; void main ( struct A * p , struct A * q _( ghost \\claim c ) _( ghost \\object o ) ) { _( ghost c = \\make_claim ( { p } ," "q -> \\closed ) ; ) }" ∷
    breaks 20 "_( claimable ) struct A { int v ; } ; void main ( struct A * p , struct A * q _( ghost \\claim c ) _( ghost \\object o ) ) { _( ghost c = \\make_claim ( { p } , 1 &&" "( q ) -> \\closed ) ; ) }" ∷
    types "_( claimable ) struct A { int v ; } ; void main ( struct A * p , struct A * q _( ghost \\claim c ) _( ghost \\object o ) ) { _( assert \\claims ( c , q -> \\closed && p -> \\closed ) ) }" ∷
    breaks 20 "_( claimable ) struct A { int v ; } ; void main ( struct A * p , struct A * q _( ghost \\claim c ) _( ghost \\object o ) ) { _( assert \\claims ( c , p ->" "\\closed == 1 ) ) }" ∷
    types "_( claimable ) struct A { int v ; } ; void main ( struct A * p , struct A * q _( ghost \\claim c ) _( ghost \\object o ) ) { _( ghost c = \\make_claim ( { p } , \\claims ( c , q -> \\closed ) ) ; ) }" ∷
    breaks 20 "_( claimable ) struct A { int v ; } ; void main ( struct A * p , struct A * q _( ghost \\claim c ) _( ghost \\object o ) ) { _( ghost c = \\make_claim ( { p } , \\claims ( c , q ->" "\\closed || 1 ) ) ; ) }" ∷
    types "_( claimable ) struct A { int v ; } ; void main ( struct A * p , struct A * q _( ghost \\claim c ) _( ghost \\object o ) ) { _( ghost c = \\make_claim ( { 16 ? p : q } , ( ( 16 ) ? p : q ) -> \\closed ) ; ) }" ∷
    breaks 20 "_( claimable ) struct A { int v ; } ; void main ( struct A * p , struct A * q _( ghost \\claim c ) _( ghost \\object o ) ) { _( ghost c = \\make_claim ( { 16 ? p : q } ," "( 15 ? p : q ) -> \\closed ) ; ) }" ∷
    []

properties_hold : list_all (λ b. b) properties ≡ true
unfolding reads read links climbs read_rule first first_rule low low_rule is_empty
properties_hold = refl
