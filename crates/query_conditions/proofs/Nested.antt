-- The test of all productions: each leaves the open rows as its part does, whatever rows are open around.
use mathlib.Core.Path.{◌≡◌, refl, sym, ap, ◌∙◌, subst}
use mathlib.Core.Bool.{Bool, true, false, ◌&&◌, cond}
use mathlib.Core.List.{[], ◌∷◌, ◌++◌, Memᴰ, append_assoc}
use mathlib.Core.Option.{some}
use lib.Dec.{T, eqb, eqb→eq}
use lib.ListN.{get_elem?}
use Rattle.paper.specs.Grammar.{Sym, nt, tm, act}
use Rattle.paper.specs.Language.{Terminal, Mark, row, kind, named, wrapper, wrap, end, Part, language, OperationType, TypeCondition, Value}
use Rattle.paper.proofs.Bools.{and_l, and_r}
use Rattle.paper.proofs.Tables.{all_n, num_n, at_n}
use Rattle.paper_theory.proofs.Test.{all, all_at, all_mem, implies, implies_out}
use Rattle.query_conditions.proofs.Cells.{Syms, Cell, plain, Stack, all_k, num_k, at_k, bears, ends, born, under, init, takes, is_among, fits, after, step, run, settled}

abbrev alive : Stack → Bool
alive [] = false
alive (c ∷ σ) = true

-- What is wrong stays so.
step_dead : (x : Sym Part Terminal Mark) → step x [] ≡ []
step_dead (nt n) = refl
step_dead (tm p) = refl
step_dead (act row) = refl
step_dead (act (kind k x)) = refl
step_dead (act named) = refl
step_dead (act wrapper) = refl
step_dead (act (wrap w)) = refl
step_dead (act end) = refl

run_dead : (ss : Syms) → run ss [] ≡ []
run_dead [] = refl
run_dead (x ∷ ss) = ap (run ss) (step_dead x) ∙ run_dead ss

pub not_dead : (ss : Syms) → T (settled (run ss [])) → ⊥
not_dead ss t = subst (λ (σ : Stack). T (settled σ)) (run_dead ss) t

run_alive : (ss : Syms) (σ : Stack) → T (alive (run ss σ)) → T (alive σ)
run_alive ss [] t = subst (λ (σ : Stack). T (alive σ)) (run_dead ss) t
run_alive ss (c ∷ σ) t = tt

-- Rows further out make no difference.
cond_frame : (b : Bool) (ρ σ τ : Stack) → T (alive (cond b (ρ ++ σ) [])) → cond b (ρ ++ (σ ++ τ)) [] ≡ cond b (ρ ++ σ) [] ++ τ
cond_frame true ρ σ τ t = sym (append_assoc ρ σ τ)
cond_frame false ρ σ τ t = absurd t

end_frame : (b : Bool) (σ τ : Stack) → T (alive (cond b σ [])) → cond b (σ ++ τ) [] ≡ cond b σ [] ++ τ
end_frame true σ τ t = refl
end_frame false σ τ t = absurd t

step_frame : (x : Sym Part Terminal Mark) (σ τ : Stack) → T (alive (step x σ)) → step x (σ ++ τ) ≡ step x σ ++ τ
step_frame (nt n) [] τ t = absurd t
step_frame (nt n) (c ∷ σ) τ t = cond_frame (fits n c) (after n c) σ τ t
step_frame (tm p) σ τ t = refl
step_frame (act row) [] τ t = absurd t
step_frame (act row) (c ∷ σ) τ t = cond_frame (bears c) (born c ∷ (under c ∷ [])) σ τ t
step_frame (act (kind k x)) [] τ t = absurd t
step_frame (act (kind k x)) (c ∷ []) τ t = absurd t
step_frame (act (kind k x)) (c ∷ (d ∷ σ)) τ t = cond_frame (takes c d k) (init k ∷ (d ∷ [])) σ τ t
step_frame (act named) σ τ t = refl
step_frame (act wrapper) σ τ t = refl
step_frame (act (wrap w)) σ τ t = refl
step_frame (act end) [] τ t = absurd t
step_frame (act end) (c ∷ σ) τ t = end_frame (ends c) σ τ t

run_frame : (α : Syms) (σ τ : Stack) → T (alive (run α σ)) → run α (σ ++ τ) ≡ run α σ ++ τ
run_frame [] σ τ t = refl
run_frame (x ∷ α) σ τ t = ap (run α) (step_frame x σ τ (run_alive α (step x σ) t)) ∙ run_frame α (step x σ) τ t

run_append : (α ss : Syms) (σ : Stack) → run (α ++ ss) σ ≡ run ss (run α σ)
run_append [] ss σ = refl
run_append (x ∷ α) ss σ = run_append α ss (step x σ)

-- The test of all productions.
abbrev same_cells : Stack → Stack → Bool
same_cells [] [] = true
same_cells [] (d ∷ τ) = false
same_cells (c ∷ σ) [] = false
same_cells (c ∷ σ) (d ∷ τ) = eqb (num_k c) (num_k d) && same_cells σ τ

same_cell : (c d : Cell) → T (eqb (num_k c) (num_k d)) → c ≡ d
same_cell c d t = let z : some c ≡ some d = sym (at_k c) ∙ ap (get_elem? all_k) (eqb→eq (num_k c) (num_k d) t) ∙ at_k d in cc

same_cells_is : (σ τ : Stack) → T (same_cells σ τ) → σ ≡ τ
same_cells_is [] [] t = refl
same_cells_is [] (d ∷ τ) t = absurd t
same_cells_is (c ∷ σ) [] t = absurd t
same_cells_is (c ∷ σ) (d ∷ τ) t =
    ap (λ (x : Cell). x ∷ σ) (same_cell c d (and_l (eqb (num_k c) (num_k d)) (same_cells σ τ) t)) ∙ ap (λ (ρ : Stack). d ∷ ρ) (same_cells_is σ τ (and_r (eqb (num_k c) (num_k d)) (same_cells σ τ) t))

abbrev cell_tested : Part → Cell → Bool
cell_tested n c = implies (fits n c) (all (λ α. same_cells (run α (c ∷ [])) (after n c)) (language n))

abbrev part_tested : Part → Bool
part_tested n = all (λ c. cell_tested n c) all_k

tested : T (all part_tested all_n)
unfolding language
tested = tt

part_run : (n : Part) (c : Cell) (α : Syms) → T (fits n c) → Memᴰ α (language n) → run α (c ∷ []) ≡ after n c
part_run n c α f m =
    same_cells_is (run α (c ∷ [])) (after n c)
    (all_mem (λ β. same_cells (run β (c ∷ [])) (after n c)) (implies_out (fits n c) (all (λ β. same_cells (run β (c ∷ [])) (after n c)) (language n)) (all_at (λ x. cell_tested n x) all_k (num_k c) (all_at part_tested all_n (num_n n) tested (at_n n)) (at_k c)) f) m)

after_alive : (a b : Bool) (c : Cell) → T (alive (cond a (plain ∷ (c ∷ [])) (cond b (under c ∷ []) (c ∷ []))))
after_alive true b c = tt
after_alive false true c = tt
after_alive false false c = tt

-- a part's production in its place
pub run_by : (n : Part) (α ss : Syms) (σ : Stack) → Memᴰ α (language n) → T (settled (run (nt n ∷ ss) σ)) → T (settled (run (α ++ ss) σ))
run_by n α ss [] m t = absurd (not_dead ss t)
run_by n α ss (c ∷ τ) m t = go (fits n c) refl t
  where
    go : (b : Bool) → fits n c ≡ b → T (settled (run ss (cond b (after n c ++ τ) []))) → T (settled (run (α ++ ss) (c ∷ τ)))
    go false e t = absurd (not_dead ss t)
    go true e t =
        let r = part_run n c α (subst T (sym e) tt) m in
        let lives : T (alive (run α (c ∷ []))) = subst (λ (σ : Stack). T (alive σ)) (sym r) (after_alive (is_among (OperationType ∷ []) n) (is_among (TypeCondition ∷ Value ∷ []) n) c) in
        let q : run (α ++ ss) (c ∷ τ) ≡ run ss (after n c ++ τ) = run_append α ss (c ∷ τ) ∙ ap (run ss) (run_frame α (c ∷ []) τ lives ∙ ap (λ (σ : Stack). σ ++ τ) r) in
        subst (λ (σ : Stack). T (settled σ)) (sym q) t
