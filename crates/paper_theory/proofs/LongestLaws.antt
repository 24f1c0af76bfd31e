-- The longest match is right: what it finds fits, and no longer beginning of the text does.
use mathlib.Core.Path.{◌≡◌, refl, sym, ap, ◌∙◌, subst}
use mathlib.Core.Bool.{Bool}
use mathlib.Core.List.{List, [], ◌∷◌, ◌++◌, cons≢nil, head-eq_of_cons-eq, tail-eq_of_cons-eq}
use mathlib.Core.Option.{Option, none, some}
use Prim.Native.Nat.{suc, ◌≤◌, zero-le, suc-le-suc}
use lib.ListN.{length, take as takeN}
use Rattle.paper.specs.Grammar.{Sym, Ev, toks, Derives}
use Rattle.paper.proofs.Machine.{Tables, Step, took, emptied, refused, spent, step}
use Rattle.paper.proofs.Longest.{Match, here, longer, further, scan}
use Rattle.paper_theory.proofs.Theory.{Fit, Kept, Fits, complete_step, complete_end, Sound, step_sound, took_derives, took_toks, emptied_derives, kept_step, took≢emptied, took≢refused, took≢spent, refused≢emptied, spent≢emptied}

module _ {N P C A : Type 0} {G : Tables N P C A} {follow : N → C → Bool} (F : Fit G follow) where
  -- none: no beginning of the text fits; a match: it fits, and no longer beginning does
  abbrev pub Best : List (Sym N P A) → List C → Option (Match C A) → Type 0
  Best σ bs none = (p q : List C) → p ++ q ≡ bs → Fits F σ p → ⊥
  Best σ bs (some m) =
      Derives G.prods G.hits σ m.events × (toks m.events ≡ takeN m.size bs) × ((p q : List C) → p ++ q ≡ bs → Fits F σ p → length p ≤ m.size)

  -- only the empty beginning can fit where nothing is taken
  best_here : (σ : List (Sym N P A)) (bs : List C) → ((b : C) (p q : List C) → (b ∷ p) ++ q ≡ bs → Fits F σ (b ∷ p) → ⊥) → Best σ bs (here G (step G σ none))
  best_here σ bs nope = go (step G σ none) refl (step_sound F σ none)
    where
      no_more : ((p : List C) → p ≡ [] → Fits F σ p → ⊥) → (p q : List C) → p ++ q ≡ bs → Fits F σ p → ⊥
      no_more z [] q e f = z [] refl f
      no_more z (b ∷ p) q e f = nope b p q e f

      small : (p q : List C) → p ++ q ≡ bs → Fits F σ p → length p ≤ 0
      small [] q e f = zero-le
      small (b ∷ p) q e f = absurd (nope b p q e f)

      go : (s : Step N P C A) → step G σ none ≡ s → Sound F none σ s → Best σ bs (here G s)
      go (took es σ') e h = no_more (λ p z f. took≢emptied (sym e ∙ complete_end F f.1 (f.2 ∙ z)))
      go (emptied es) e h = (emptied_derives F none σ es h, h.0, small)
      go refused e h = no_more (λ p z f. refused≢emptied (sym e ∙ complete_end F f.1 (f.2 ∙ z)))
      go spent e h = no_more (λ p z f. spent≢emptied (sym e ∙ complete_end F f.1 (f.2 ∙ z)))

  -- after a step that takes b
  best_later : (σ σ' : List (Sym N P A)) (es : List (Ev C A)) (b : C) (bs : List C) (o : Option (Match C A)) → Kept G follow σ → step G σ (some b) ≡ took es σ' → Best σ' bs o →
      Best σ (b ∷ bs) (longer G es o (here G (step G σ none)))
  best_later σ σ' es b bs none k e h = best_here σ (b ∷ bs) (λ c p q z f. h p q (tail-eq_of_cons-eq z) (back c p q z f))
    where
      back : (c : C) (p q : List C) → (c ∷ p) ++ q ≡ b ∷ bs → Fits F σ (c ∷ p) → Fits F σ' p
      back c p q z f =
          let c≡b : c ≡ b = head-eq_of_cons-eq z in
          let r = complete_step F f.1 k (f.2 ∙ ap (λ x. x ∷ p) c≡b) in
          let w : r.1 ≡ σ' = cc r.3 in
          (r.2, subst (λ x. Derives G.prods G.hits x r.2) w r.4, r.7)
  best_later σ σ' es b bs (some m) k e h =
      (took_derives F (some b) σ σ' es m.events snd h.0, took_toks F b σ σ' es m.events snd ∙ ap (λ x. b ∷ x) h.1, most)
    where
      snd : Sound F (some b) σ (took es σ')
      snd = rw e at (step_sound F σ (some b))

      back : (c : C) (p q : List C) → (c ∷ p) ++ q ≡ b ∷ bs → Fits F σ (c ∷ p) → Fits F σ' p
      back c p q z f =
          let c≡b : c ≡ b = head-eq_of_cons-eq z in
          let r = complete_step F f.1 k (f.2 ∙ ap (λ x. x ∷ p) c≡b) in
          let w : r.1 ≡ σ' = cc r.3 in
          (r.2, subst (λ x. Derives G.prods G.hits x r.2) w r.4, r.7)

      most : (p q : List C) → p ++ q ≡ b ∷ bs → Fits F σ p → length p ≤ suc m.size
      most [] q z f = zero-le
      most (c ∷ p) q z f = suc-le-suc (h.2 p q (tail-eq_of_cons-eq z) (back c p q z f))

  -- LONGEST
  pub best : (bs : List C) (σ : List (Sym N P A)) → Kept G follow σ → Best σ bs (scan G σ bs)
  unfolding scan
  best [] σ k = best_here σ [] (λ b p q z f. cons≢nil z)
  best (b ∷ bs) σ k = go (step G σ (some b)) refl (λ (σ' : List (Sym N P A)) (k' : Kept G follow σ'). best bs σ' k')
    where
      never : ((es : List (Ev C A)) (σ' : List (Sym N P A)) → step G σ (some b) ≡ took es σ' → ⊥) → (c : C) (p q : List C) → (c ∷ p) ++ q ≡ b ∷ bs → Fits F σ (c ∷ p) → ⊥
      never z c p q e f =
          let c≡b : c ≡ b = head-eq_of_cons-eq e in
          let r = complete_step F f.1 k (f.2 ∙ ap (λ x. x ∷ p) c≡b) in
          z r.0 r.1 r.3

      go : (s : Step N P C A) → step G σ (some b) ≡ s → ((σ' : List (Sym N P A)) → Kept G follow σ' → Best σ' bs (scan G σ' bs)) → Best σ (b ∷ bs) (further G (λ σ'. scan G σ' bs) s (here G (step G σ none)))
      go (took es σ') e f = best_later σ σ' es b bs (scan G σ' bs) k e (f σ' (kept_step F σ b k e))
      go (emptied es) e f = best_here σ (b ∷ bs) (never (λ es σ' z. took≢emptied (sym z ∙ e)))
      go refused e f = best_here σ (b ∷ bs) (never (λ es σ' z. took≢refused (sym z ∙ e)))
      go spent e f = best_here σ (b ∷ bs) (never (λ es σ' z. took≢spent (sym z ∙ e)))
