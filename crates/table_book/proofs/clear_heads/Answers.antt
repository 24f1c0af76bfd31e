-- All buckets' first cells are the count; the cells before and behind them are as they were.
use Rattle.table_book.proofs.Filled.{filled_cleared}
use Rattle.table_book.proofs.clear_heads.Goals as goal

pub returns : goal.returns
returns c = filled_cleared c.args.book.now c.fill.new.self c.requires (c.fill.ensures.after (λ y e. e))
