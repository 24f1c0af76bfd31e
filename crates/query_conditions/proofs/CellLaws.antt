-- Laws of cells: by a test of all, or one by one where a row's kind is not known.
use mathlib.Core.Path.{◌≡◌, sym, subst}
use mathlib.Core.Logic.{◌⊎◌, inl, inr}
use mathlib.Core.Bool.{Bool, true, false, ◌||◌, not, cond}
use Prim.Native.Nat.{ℕ}
use lib.Dec.{T, eqb, eqb→eq}
use Rattle.paper.specs.Numbers.{kind_operation, kind_fragment, kind_inline, kind_argument, kind_variable_definition, kind_type_reference}
use Rattle.paper.proofs.Bools.{and_l, and_r, or_cases, or_l}
use Rattle.paper_theory.proofs.Test.{all, all_at, implies, implies_out}
use Rattle.query_conditions.proofs.Cells.{Cell, base, new, asked, given, bare, firm, lone, full, plain, all_k, num_k, at_k, is_base, is_bare, is_firm, is_asked, grown, near, bears, ends, born, under, holder, of_value, test, suits, allows, init}

pub not_both : (b : Bool) → T b → T (not b) → ⊥
not_both true h n = n
not_both false h n = h

fact : (p q : Cell → Bool) → T (all (λ c. implies (p c) (q c)) all_k) → (c : Cell) → T (p c) → T (q c)
fact p q t c = implies_out (p c) (q c) (all_at (λ x. implies (p x) (q x)) all_k (num_k c) t (at_k c))

-- What is asked for right behind a row.
pub near_late : (c : Cell) → T (near c) → T (not (grown c))
near_late = fact near (λ c. not (grown c)) tt

pub bare_late : (c : Cell) → T (is_bare c) → T (not (grown c))
bare_late = fact is_bare (λ c. not (grown c)) tt

pub asked_near : (c : Cell) → T (is_asked c) → T (near c)
asked_near = fact is_asked near tt

pub bare_ends : (c : Cell) → T (is_bare c) → T (not (ends c))
bare_ends = fact is_bare (λ c. not (ends c)) tt

pub asked_ends : (c : Cell) → T (is_asked c) → T (not (ends c))
asked_ends = fact is_asked (λ c. not (ends c)) tt

pub asked_bears : (c : Cell) → T (is_asked c) → T (not (bears c))
asked_bears = fact is_asked (λ c. not (bears c)) tt

-- Where no row is open.
pub base_grown : (c : Cell) → T (is_base c) → T (grown c)
base_grown = fact is_base grown tt

pub base_under : (c : Cell) → T (is_base c) → T (is_base (under c))
base_under = fact is_base (λ c. is_base (under c)) tt

pub base_firm : (c : Cell) → T (is_base c) → T (not (is_firm c))
base_firm = fact is_base (λ c. not (is_firm c)) tt

pub base_bare : (c : Cell) → T (is_base c) → T (not (is_bare c))
base_bare = fact is_base (λ c. not (is_bare c)) tt

pub base_asked : (c : Cell) → T (is_base c) → T (not (is_asked c))
base_asked = fact is_base (λ c. not (is_asked c)) tt

-- A row that begins has no kind, and one that is grown has.
pub grown_kind : (c : Cell) → T (grown c) → T (not (test c 0))
grown_kind = fact grown (λ c. not (test c 0)) tt

pub born_kind : (c : Cell) → T (test (born c) 0)
born_kind c = fact (λ c. true) (λ c. test (born c) 0) tt c tt

pub born_near : (c : Cell) → T (near (born c)) → T (not (grown c))
born_near = fact (λ c. near (born c)) (λ c. not (grown c)) tt

pub bare_born : (c : Cell) → T (is_bare c) → T (is_asked (born c))
bare_born = fact is_bare (λ c. is_asked (born c)) tt

pub under_grown : (c : Cell) → T (bears c) → T (grown (under c))
under_grown = fact bears (λ c. grown (under c)) tt

pub under_kind : (c : Cell) (k : ℕ) → T (bears c) → T (test c k) → T (test (under c) k)
under_kind base k b h = h
under_kind new k b h = absurd b
under_kind asked k b h = absurd b
under_kind given k b h = absurd b
under_kind bare k b h = or_l (eqb k kind_fragment) (eqb k kind_inline || eqb k kind_variable_definition) h
under_kind firm k b h = h
under_kind lone k b h = h
under_kind full k b h = absurd b
under_kind plain k b h = h

-- A row that gets a kind.
pub allowed_late : (c : Cell) (d : Cell) (k : ℕ) → T (allows c d k) → T (not (grown c))
allowed_late base d k h = absurd h
allowed_late new d k h = tt
allowed_late asked d k h = tt
allowed_late given d k h = tt
allowed_late bare d k h = absurd h
allowed_late firm d k h = absurd h
allowed_late lone d k h = absurd h
allowed_late full d k h = absurd h
allowed_late plain d k h = absurd h

pub allowed_kind : (c : Cell) (d : Cell) (k j : ℕ) → T (allows c d k) → T (test c j) → j ≡ 0
allowed_kind base d k j h t = absurd h
allowed_kind new d k j h t = eqb→eq j 0 t
allowed_kind asked d k j h t = eqb→eq j 0 t
allowed_kind given d k j h t = eqb→eq j 0 t
allowed_kind bare d k j h t = absurd h
allowed_kind firm d k j h t = absurd h
allowed_kind lone d k j h t = absurd h
allowed_kind full d k j h t = absurd h
allowed_kind plain d k j h t = absurd h

pub allowed_bare : (c : Cell) (d : Cell) (k : ℕ) → T (is_bare c) → T (allows c d k) → ⊥
allowed_bare base d k b h = b
allowed_bare new d k b h = b
allowed_bare asked d k b h = b
allowed_bare given d k b h = b
allowed_bare bare d k b h = h
allowed_bare firm d k b h = b
allowed_bare lone d k b h = b
allowed_bare full d k b h = b
allowed_bare plain d k b h = b

pub allowed_asked : (c : Cell) (d : Cell) (k : ℕ) → T (is_asked c) → T (allows c d k) → k ≡ kind_type_reference
allowed_asked base d k b h = absurd b
allowed_asked new d k b h = absurd b
allowed_asked asked d k b h = eqb→eq k kind_type_reference (and_r (is_firm d) (eqb k kind_type_reference) h)
allowed_asked given d k b h = absurd b
allowed_asked bare d k b h = absurd b
allowed_asked firm d k b h = absurd b
allowed_asked lone d k b h = absurd b
allowed_asked full d k b h = absurd b
allowed_asked plain d k b h = absurd b

pub allowed_or : (c : Cell) (d : Cell) (k : ℕ) → T (allows c d k) → T (near c) ⊎ T (suits d k)
allowed_or base d k h = absurd h
allowed_or new d k h = inr h
allowed_or asked d k h = inl tt
allowed_or given d k h = inl tt
allowed_or bare d k h = absurd h
allowed_or firm d k h = absurd h
allowed_or lone d k h = absurd h
allowed_or full d k h = absurd h
allowed_or plain d k h = absurd h

suits_firm : (d : Cell) → T (suits d kind_type_reference) → T (is_firm d)
suits_firm = fact (λ d. suits d kind_type_reference) is_firm tt

pub allowed_firm : (c : Cell) (d : Cell) → T (allows c d kind_type_reference) → T (is_firm d)
allowed_firm base d h = absurd h
allowed_firm new d h = suits_firm d h
allowed_firm asked d h = and_l (is_firm d) (eqb kind_type_reference kind_type_reference) h
allowed_firm given d h = absurd h
allowed_firm bare d h = absurd h
allowed_firm firm d h = absurd h
allowed_firm lone d h = absurd h
allowed_firm full d h = absurd h
allowed_firm plain d h = absurd h

pub firm_kind : (d : Cell) (k : ℕ) → T (is_firm d) → T (test d k) → T (holder k)
firm_kind base k f h = absurd f
firm_kind new k f h = absurd f
firm_kind asked k f h = absurd f
firm_kind given k f h = absurd f
firm_kind bare k f h = absurd f
firm_kind firm k f h = h
firm_kind lone k f h = absurd f
firm_kind full k f h = absurd f
firm_kind plain k f h = absurd f

outer_value : (k : ℕ) → T (eqb k kind_operation) ⊎ T (eqb k kind_fragment) → T (of_value k) → ⊥
outer_value k (inl h) v = subst (λ (j : ℕ). T (of_value j)) (eqb→eq k kind_operation h) v
outer_value k (inr h) v = subst (λ (j : ℕ). T (of_value j)) (eqb→eq k kind_fragment h) v

pub base_value : (d : Cell) (k : ℕ) → T (is_base d) → T (suits d k) → T (of_value k) → ⊥
base_value base k b h v = outer_value k (or_cases (eqb k kind_operation) (eqb k kind_fragment) h) v
base_value new k b h v = b
base_value asked k b h v = b
base_value given k b h v = b
base_value bare k b h v = b
base_value firm k b h v = b
base_value lone k b h v = b
base_value full k b h v = b
base_value plain k b h v = b

pub suits_argument : (d : Cell) (k : ℕ) → T (suits d k) → T (test d kind_argument) → ⊥
suits_argument base k s h = h
suits_argument new k s h = s
suits_argument asked k s h = s
suits_argument given k s h = s
suits_argument bare k s h = s
suits_argument firm k s h = h
suits_argument lone k s h = s
suits_argument full k s h = s
suits_argument plain k s h = h

pub init_near : (k : ℕ) → T (near (init k)) → ⊥
init_near k = go (eqb k kind_fragment) (eqb k kind_inline || eqb k kind_variable_definition) (eqb k kind_argument)
  where
    go : (a b c : Bool) → T (near (cond a bare (cond b firm (cond c lone plain)))) → ⊥
    go true b c h = h
    go false true c h = h
    go false false true h = h
    go false false false h = h

pub init_bare : (k : ℕ) → k ≡ kind_fragment → T (is_bare (init k))
init_bare k e = subst (λ (j : ℕ). T (is_bare (init j))) (sym e) tt
