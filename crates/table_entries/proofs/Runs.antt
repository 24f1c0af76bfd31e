-- Entries that stand one beside the other.
use mathlib.Core.Path.{◌≡◌, refl, ◌∙◌}
use mathlib.Core.List.{List, [], ◌∷◌, ◌++◌}
use Prim.Native.Nat.{ℕ, suc, ◌+◌, ◌≤◌, ◌<◌}
use native.Mathlib.Omega.{arith}
use lib.ListN.{length, get_or}
use Rattle.paper_table.specs.References.{Ref}
use Rattle.paper_table.specs.Types.{Argument, Member}
use Rattle.table_entries.specs.Entries.{entry_at, Roomy, entry_key, entry_name, entry_size, entry_base, entry_extent, entry_wrappers, entry_next, entry_meant, next_of, Entry, Run, ArgumentEntry, MemberEntry}

module _ {A : Type 0} (P : ℕ → A → Type 0) (es : List ℕ) where
  pub run_order : (e f : ℕ) (xs : List A) → Run P es e f xs → e ≤ f
  run_order e f [] r = omega arith
  run_order e f (x ∷ xs) r = let h : next_of es e ≤ f = run_order (next_of es e) f xs r.2 in omega (arith, r.1)

  -- one more at the end
  pub run_snoc : (e k : ℕ) (xs : List A) → Run P es e k xs → (x : A) → P k x → k < next_of es k → Run P es e (next_of es k) (xs ++ x ∷ [])
  run_snoc e k [] r x p l = rw r (p, l, refl)
  run_snoc e k (y ∷ ys) r x p l = (r.0, r.1, run_snoc (next_of es e) k ys r.2 x p l)

-- what there is room for
pub roomy_less : {es : List ℕ} {e f : ℕ} → Roomy es f → e ≤ f → Roomy es e
roomy_less r h = record { cells = omega (arith, r.cells); most = omega (arith, r.most) }

pub roomy_same : {old es : List ℕ} {e f : ℕ} → Roomy old f → e ≤ f → length es ≡ length old → Roomy es e
roomy_same r h l = record { cells = omega (arith, r.cells, l); most = omega (arith, r.most) }

-- the cells from one place up to another are as they were
abbrev pub Same : List ℕ → List ℕ → ℕ → ℕ → Type 0
Same old es lo hi = (k : ℕ) → lo ≤ k → k < hi → get_or es k 0 ≡ get_or old k 0

module _ {A : Type 0} (P Q : ℕ → A → Type 0) (old es : List ℕ) (lo hi : ℕ) (s : Same old es (entry_at lo) (entry_at hi))
    (keeps : (e : ℕ) (x : A) → lo ≤ e → e < next_of old e → next_of old e ≤ hi → P e x → Q e x) where
  next_same : (e : ℕ) → lo ≤ e → e < hi → next_of es e ≡ next_of old e
  next_same e l h = s (entry_at e + entry_next) (omega arith) (omega arith)

  pub run_same : (e : ℕ) (xs : List A) → lo ≤ e → Run P old e hi xs → Run Q es e hi xs
  run_same e [] l r = r
  run_same e (x ∷ xs) l r =
      let h : next_of old e ≤ hi = run_order P old (next_of old e) hi xs r.2 in
      let m : e < next_of old e = r.1 in
      let q : next_of es e ≡ next_of old e = next_same e l (omega arith) in
      rw q (keeps e x l m h r.0, m, run_same (next_of old e) xs (omega arith) r.2)

module _ (t book old es : List ℕ) where
  pub entry_same : (e : ℕ) (n : List ℕ) (r : Ref) → Same old es (entry_at e) (entry_at (suc e)) → Entry t book old e n r → Entry t book es e n r
  entry_same e n r s x = record {
    key_is = rw (s (entry_at e + entry_key) (omega arith) (omega arith)) x.key_is;
    named = rw (s (entry_at e + entry_name) (omega arith) (omega arith), s (entry_at e + entry_size) (omega arith) (omega arith)) x.named;
    typed = rw (s (entry_at e + entry_base) (omega arith) (omega arith), s (entry_at e + entry_extent) (omega arith) (omega arith), s (entry_at e + entry_wrappers) (omega arith) (omega arith)) x.typed;
    means = rw (s (entry_at e + entry_meant) (omega arith) (omega arith)) x.means;
  }

  pub argument_same : (e : ℕ) (a : Argument) → e < next_of old e → Same old es (entry_at e) (entry_at (next_of old e)) → ArgumentEntry t book old e a → ArgumentEntry t book es e a
  argument_same e a l s x = record {
    entry = entry_same e a.name a.type (λ k p q. s k p (omega arith)) x.entry;
    next = s (entry_at e + entry_next) (omega arith) (omega arith) ∙ x.next;
  }

  pub member_same : (e : ℕ) (m : Member) → e < next_of old e → Same old es (entry_at e) (entry_at (next_of old e)) → MemberEntry t book old e m → MemberEntry t book es e m
  member_same e m l s x =
      let q : next_of es e ≡ next_of old e = s (entry_at e + entry_next) (omega arith) (omega arith) in
      record {
        entry = entry_same e m.name m.type (λ k p r. s k p (omega arith)) x.entry;
        arguments =
            rw q
            (run_same (ArgumentEntry t book old) (ArgumentEntry t book es) old es (suc e) (next_of old e) (λ k p r. s k (omega arith) r)
            (λ j a p r h y. argument_same j a r (λ k g i. s k (omega arith) (omega arith)) y) (suc e) m.arguments (omega arith) x.arguments);
      }
