-- The reader's machine: the grammar's machine over a text, which writes the rows into lent numbers and heeds the sizes as it goes.
-- Every reader's contract is an equation of `go`; `GoingSaid` of crate `paper_theory` shows that what it answers is what `Reading` says.
use mathlib.Core.Path.{◌≡◌, refl}
use mathlib.Core.Bool.{Bool, true, false}
use mathlib.Core.List.{List, [], ◌∷◌}
use mathlib.Core.Option.{none, some}
use Prim.Native.Nat.{ℕ, zero, suc, ◌+◌, ◌-◌, ◌*◌}
use lib.Dec.{ltb}
use lib.ListN.{set, get_or}
use lib.Seq.{sets}
use Rattle.paper.specs.Grammar.{Sym, act, Ev, tok, mark}
use Rattle.paper.specs.Numbers.{most_levels, most_rows}
use Rattle.paper.specs.Language.{Class, Terminal, Mark, row, kind, named, wrapper, wrap, end, Part}
use Rattle.paper.specs.Tokens.{Tok, Text, at_end, bad, token}
use Rattle.paper.specs.Rows.{top, pop}
use Rattle.paper.specs.Sizes.{Counts, opens_level, closes_level, kinded, wrapper_more, over_counts}
use Rattle.paper.specs.declared.Refusal.{Refusal}
use Rattle.paper.specs.declared.Refusal.TheVariants.{NoToken, NoGoing, TooDeep, TooManyRows, TooMany}
use Rattle.paper.proofs.Machine.{Step, took, emptied, refused, spent, step, ◌▸◌}
use Rattle.paper.proofs.Tables.{graphql}

abbrev pub Stack : Type 0
Stack = List (Sym Part Terminal Mark)

-- the lent numbers, the rows begun, the open ones, the last token's end, the levels left, the other counts
pub record State : Type 0 where
  pub cells : List ℕ
  pub rows : ℕ
  pub open' : List ℕ
  pub stop : ℕ
  pub left : ℕ
  pub counts : Counts

abbrev pub st : List ℕ → ℕ → List ℕ → ℕ → ℕ → Counts → State
st cells rows o stop left q = record { cells = cells; rows = rows; open' = o; stop = stop; left = left; counts = q }

-- before anything is read
abbrev pub start : List ℕ → State
start cells = st cells 0 [] 0 most_levels (record { fragments = 0; variables = 0; wrappers = 0 })

pub data Out : Type 0 where
  whole : State → Out
  halt : Refusal → Out

-- the next token's ends
abbrev pub start_in : Text → ℕ
start_in (at_end n) = n
start_in (bad n) = n
start_in (token k t) = k.start

abbrev pub stop_in : Text → ℕ
stop_in (at_end n) = n
stop_in (bad n) = n
stop_in (token k t) = k.stop

-- the seven numbers of a row just begun
abbrev pub fresh_row : List ℕ → ℕ → ℕ → ℕ → List ℕ
fresh_row cells n at parent = sets cells (7 * n) (0 ∷ at ∷ 0 ∷ parent ∷ 0 ∷ 0 ∷ 0 ∷ [])

abbrev pub noted : Mark → Text → State → State
noted row t s = st (fresh_row s.cells s.rows (start_in t) (top s.open')) (s.rows + 1) (s.rows ∷ s.open') s.stop s.left s.counts
noted (kind k x) t s = st (set (set s.cells (7 * top s.open') k) (7 * top s.open' + 6) x) s.rows s.open' s.stop s.left (kinded k s.counts)
noted named t s = st (set (set s.cells (7 * top s.open' + 4) (start_in t)) (7 * top s.open' + 5) (stop_in t - start_in t)) s.rows s.open' s.stop s.left s.counts
noted wrapper t s = st s.cells s.rows s.open' s.stop s.left (wrapper_more s.counts)
noted (wrap w) t s = st (set s.cells (7 * top s.open' + 6) (get_or s.cells (7 * top s.open' + 6) 0 * 4 + w)) s.rows s.open' s.stop s.left s.counts
noted end t s = st (set s.cells (7 * top s.open' + 2) s.stop) s.rows (pop s.open') s.stop s.left s.counts

-- the marks of es, which stand before the next token
abbrev pub marked : List (Ev Class Mark) → Text → State → State
marked [] t s = s
marked (tok c ∷ es) t s = marked es t s
marked (mark m ∷ es) t s = marked es t (noted m t s)

-- the levels left after a token, or refusal 5
abbrev pub deep : Bool → Bool → ℕ → ℕ → (ℕ → Out) → Out
deep true b zero at f = halt (TooDeep at)
deep true b (suc l) at f = f l
deep false true l at f = f (suc l)
deep false false l at f = f l

abbrev pub many : Bool → Refusal → Out → Out
many true r o = halt r
many false r o = o

-- a token is taken, where it keeps to the sizes
abbrev pub heed : Tok → State → (State → Out) → Out
heed k s f =
    deep (opens_level k.class) (closes_level k.class) s.left k.start
    (λ l. many (ltb most_rows s.rows) (TooManyRows k.start) (many (over_counts s.counts) (TooMany k.start) (f (st s.cells s.rows s.open' k.stop l s.counts))))

abbrev pub ended : State → ℕ → Step Part Terminal Class Mark → Out
ended s n (took es σ) = halt (NoGoing n)
ended s n (emptied es) = whole (marked es (at_end n) s)
ended s n refused = halt (NoGoing n)
ended s n spent = halt (NoGoing n)

abbrev pub goes : State → Tok → Text → (State → Stack → Out) → Step Part Terminal Class Mark → Out
goes s k t f (took es σ) = heed k (marked es (token k t) s) (λ s'. f s' σ)
goes s k t f (emptied es) = halt (NoGoing k.start)
goes s k t f refused = halt (NoGoing k.start)
goes s k t f spent = halt (NoGoing k.start)

-- what is said of the text t where the stack σ is expected
unfoldable pub go : State → Stack → Text → Out
go s σ (at_end n) = ended s n (step graphql σ none)
go s σ (bad n) = halt (NoToken n)
go s σ (token k t) = goes s k t (λ s' σ'. go s' σ' t) (step graphql σ (some k.class))

-- a mark is done when the machine comes to it
pub go_act : (s : State) (a : Mark) (σ : Stack) (t : Text) → go s (act a ∷ σ) t ≡ go (noted a t s) σ t
unfolding go step
go_act s a σ (bad n) = refl
go_act s a σ (at_end n) = cases (step graphql σ none)
  where
    cases : (r : Step Part Terminal Class Mark) → ended s n ((mark a ∷ []) ▸ r) ≡ ended (noted a (at_end n) s) n r
    cases (took es ss) = refl
    cases (emptied es) = refl
    cases refused = refl
    cases spent = refl
go_act s a σ (token k t) = cases (step graphql σ (some k.class))
  where
    cases : (r : Step Part Terminal Class Mark) → goes s k t (λ s' σ'. go s' σ' t) ((mark a ∷ []) ▸ r) ≡ goes (noted a (token k t) s) k t (λ s' σ'. go s' σ' t) r
    cases (took es ss) = refl
    cases (emptied es) = refl
    cases refused = refl
    cases spent = refl
