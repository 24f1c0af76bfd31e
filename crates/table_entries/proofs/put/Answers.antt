-- Eight values stored one behind the other.
use mathlib.Core.List.{[], ◌∷◌}
use Rattle.table_entries.specs.Entries.{entry_at}
use Rattle.table_entries.proofs.Stores.{stored_length, put_is}
use native.Mathlib.Omega.{arith}
use Rattle.table_entries.proofs.put.Goals as goal

pub bounds-es-i-2 : goal.bounds-es-i-2
bounds-es-i-2 c = let a = c.args in omega (arith, stored_length a.es.now (entry_at a.e) 0 (a.key ∷ []))

pub bounds-es-i-3 : goal.bounds-es-i-3
bounds-es-i-3 c = let a = c.args in omega (arith, stored_length a.es.now (entry_at a.e) 0 (a.key ∷ a.name ∷ []))

pub bounds-es-i-4 : goal.bounds-es-i-4
bounds-es-i-4 c = let a = c.args in omega (arith, stored_length a.es.now (entry_at a.e) 0 (a.key ∷ a.name ∷ a.size ∷ []))

pub bounds-es-i-5 : goal.bounds-es-i-5
bounds-es-i-5 c = let a = c.args in omega (arith, stored_length a.es.now (entry_at a.e) 0 (a.key ∷ a.name ∷ a.size ∷ a.base ∷ []))

pub bounds-es-i-6 : goal.bounds-es-i-6
bounds-es-i-6 c = let a = c.args in omega (arith, stored_length a.es.now (entry_at a.e) 0 (a.key ∷ a.name ∷ a.size ∷ a.base ∷ a.extent ∷ []))

pub bounds-es-i-7 : goal.bounds-es-i-7
bounds-es-i-7 c = let a = c.args in omega (arith, stored_length a.es.now (entry_at a.e) 0 (a.key ∷ a.name ∷ a.size ∷ a.base ∷ a.extent ∷ a.wrappers ∷ []))

pub bounds-es-i-8 : goal.bounds-es-i-8
bounds-es-i-8 c = let a = c.args in omega (arith, stored_length a.es.now (entry_at a.e) 0 (a.key ∷ a.name ∷ a.size ∷ a.base ∷ a.extent ∷ a.wrappers ∷ a.next ∷ []))

pub shape_of-es : goal.shape_of-es
shape_of-es c = stored_length c.args.es.now (entry_at c.args.e) 0 (_ ∷ _ ∷ _ ∷ _ ∷ _ ∷ _ ∷ _ ∷ _ ∷ [])

pub returns : goal.returns
returns c = let a = c.args in put_is a.es.now a.e c.requires.0 a.key a.name a.size a.base a.extent a.wrappers a.next a.meant
