use Rattle.std.proofs.lemmas.Result.{MatchResult-at_ok}
use Rattle.printed.proofs.Kept.{is_read, read_right}
use Rattle.printed.proofs.printed_store.methods.PrintedStoreStore.read.Goals as goal

pub unwrap-requires : goal.unwrap-requires
unwrap-requires c =
    let s = c.args.self.now in
    is_read s.bytes.now c.as_chunks.result.0.now c.args.process c.args.cell c.in_ok-k.k (s.long, s.shown, s.sound) c.in_ok-k.ensures c.as_chunks.ensures.front 0 _ c.read_line.ensures

pub returns : goal.returns
returns c =
    let s = c.args.self.now in
    read_right s.bytes.now c.as_chunks.result.0.now c.args.process c.args.cell c.in_ok-k.k (s.long, s.shown, s.sound) c.in_ok-k.ensures c.as_chunks.ensures.front c.unwrap.result
    (MatchResult-at_ok _ _ _ c.unwrap.ensures c.read_line.ensures)
