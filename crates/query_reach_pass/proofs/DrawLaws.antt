-- What a definition draws by its spreads: fragments, and so definitions.
use mathlib.Core.Path.{◌≡◌, sym, ◌∙◌}
use mathlib.Core.Bool.{Bool, true, false, ◌||◌, true≢false}
use Prim.Native.Nat.{ℕ}
use native.Mathlib.Omega.{arith}
use lib.Dec.{T}
use Rattle.paper.proofs.Bools.{and_left}
use Rattle.paper.specs.Numbers.{kind_operation, kind_fragment}
use Rattle.paper.specs.Rows.{Row}
use Rattle.paper_query.specs.Constructs.{Doc, no_row, is, row_of, name_of, called, fragment_called, fragment_named}
use Rattle.paper_query.specs.Reaching.{Within, Spreads}
use Rattle.paper_query.specs.Reaching.Reaches.{here, through}
use Rattle.query_links.specs.Links.{next_with}
use Rattle.query_links.proofs.Nexts.{next_all, next_passes}
use Rattle.query_spreads.specs.Owners.{Defines}
use Rattle.query_reach_pass.specs.Marks.{Draws}

-- a spread in the definition, or in a fragment that it reaches, leads to a fragment that it reaches
pub draws_here : (d : Doc) (a s f : ℕ) → Within d a s → Spreads d s f → Draws d a f
draws_here d a s f w p = record { at = s; reaches = here w; spreads = p }

pub draws_on : (d : Doc) (a g s f : ℕ) → Draws d a g → Within d g s → Spreads d s f → Draws d a f
draws_on d a g s f r w p = record { at = s; reaches = through r.reaches r.spreads w; spreads = p }

-- what is spread is a fragment, and so a definition
pub spread_fragment : (d : Doc) (s f : ℕ) → Spreads d s f → is kind_fragment (row_of d f) ≡ true
unfolding fragment_named
spread_fragment d s f p =
    let q : Row → Bool = fragment_called d (name_of d s) in
    let e : next_with q d.rows 0 ≡ f = next_all q d.rows ∙ p.named in
    and_left (is kind_fragment (row_of d f)) (called d (name_of d s) (row_of d f)) (rw e at (next_passes q d.rows no_row 0 (omega (arith, e, p.known))))

pub spread_defines : (d : Doc) (s f : ℕ) → Spreads d s f → Defines d f
spread_defines d s f p = go (is kind_operation (row_of d f)) (is kind_fragment (row_of d f)) (spread_fragment d s f p)
  where
    go : (b c : Bool) → c ≡ true → T (b || c)
    go true c e = tt
    go false true e = tt
    go false false e = absurd (true≢false (sym e))

pub draws_defines : (d : Doc) (a f : ℕ) → Draws d a f → Defines d f
draws_defines d a f r = spread_defines d r.at f r.spreads
