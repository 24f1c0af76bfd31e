-- `text_documents::fragment` meets its contract: each way out is a law of `FragmentLaws`.
use mathlib.Core.Path.{sym, ◌∙◌}
use native.Mathlib.Omega.{arith}
use Rattle.text_cursor.proofs.Exits.{handed_back}
use Rattle.text_references.proofs.MovedLaws.{end_within}
use Rattle.text_documents.proofs.FragmentLaws.{fragment_full, fragment_many, fragment_bad, fragment_ends, fragment_nameless, fragment_ready, fragment_says}
use Rattle.text_documents.proofs.fragment.Goals as goal

pub returns-then-n-eq-MOST_ROWS : goal.returns-then-n-eq-MOST_ROWS
returns-then-n-eq-MOST_ROWS c = fragment_full _ _ _ _ c.requires.0 c.requires.1 c.if-n-eq-MOST_ROWS.true

pub returns-then-before-eq-MOST_FRAGMENTS : goal.returns-then-before-eq-MOST_FRAGMENTS
returns-then-before-eq-MOST_FRAGMENTS c = fragment_many _ _ _ _ c.requires.0 c.requires.1 c.if-n-eq-MOST_ROWS.false (omega arith)

pub past-requires : goal.past-requires
past-requires c = (c.requires.0.short, (end_within _ c.args.c c.requires.0.within c.requires.0.looks).1)

pub returns-in_err-name : goal.returns-in_err-name
returns-in_err-name c = rw (handed_back _ _ _ c.from_residual.ensures c.in_err-name.was) (fragment_bad _ _ _ _ c.requires.0 c.requires.1 c.if-n-eq-MOST_ROWS.false c.if-before-eq-MOST_FRAGMENTS.false c.past.result c.past.ensures _ _ c.in_err-name.was)

pub names_fragment-requires : goal.names_fragment-requires
names_fragment-requires c = omega (arith, fragment_ends _ _ _ c.args.before c.requires.0 c.requires.1 c.if-n-eq-MOST_ROWS.false c.if-before-eq-MOST_FRAGMENTS.false c.past.result c.past.ensures _ c.in_ok-name.was, end_within _ c.args.c c.requires.0.within c.requires.0.looks)

pub overflow_sub-name : goal.overflow_sub-name
overflow_sub-name c = (fragment_ends _ _ _ c.args.before c.requires.0 c.requires.1 c.if-n-eq-MOST_ROWS.false c.if-before-eq-MOST_FRAGMENTS.false c.past.result c.past.ensures _ c.in_ok-name.was).0

pub fragment_rest-requires : goal.fragment_rest-requires
fragment_rest-requires c = fragment_ready _ _ _ c.args.before c.requires.0 c.requires.1 c.if-n-eq-MOST_ROWS.false c.if-before-eq-MOST_FRAGMENTS.false c.past.result c.past.ensures _ c.in_ok-name.was _ c.put_row.ensures (sym c.names_fragment.ensures ∙ c.if-names_fragment.true)

pub returns-then-names_fragment : goal.returns-then-names_fragment
returns-then-names_fragment c = fragment_says _ _ _ _ c.requires.0 c.requires.1 c.if-n-eq-MOST_ROWS.false c.if-before-eq-MOST_FRAGMENTS.false c.past.result c.past.ensures _ c.in_ok-name.was _ c.put_row.ensures _ c.fragment_rest.result c.fragment_rest.ensures

pub returns : goal.returns
returns c = fragment_nameless _ _ _ _ c.requires.0 c.requires.1 c.if-n-eq-MOST_ROWS.false c.if-before-eq-MOST_FRAGMENTS.false c.past.result c.past.ensures _ c.in_ok-name.was _ (sym c.names_fragment.ensures ∙ c.if-names_fragment.false) c.no_going.result c.no_going.ensures
