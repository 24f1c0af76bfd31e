-- As the table has it.
use mathlib.Core.Path.{refl}
use native.Mathlib.Omega.{arith}
use Rattle.query_place_types.proofs.ShapeLaws.{keeps_typed}
use Rattle.query_place_types.proofs.entry_place.Goals as goal

pub type_of-r-requires : goal.type_of-r-requires
type_of-r-requires c = c.requires.1.stands.most

pub overflow_cast-result : goal.overflow_cast-result
overflow_cast-result c = omega (arith, c.requires.1.stands.most.most)

pub overflow_cast-result-2 : goal.overflow_cast-result-2
overflow_cast-result-2 c = let w = c.requires in let y = c.type_of-r.ensures w.0 w.1.book w.1.stands.name w.1.stands.type w.1.stands.is in omega (arith, y.packs)

pub returns : goal.returns
returns c = let g = c.requires.1.stands in
    λ t book name type x l. keeps_typed t book c.args.es.now _ c.args.e (record { most = g.most; name = name; type = type; is = x }) _ _ _ (c.type_of-r.ensures t book name type x) l refl refl
