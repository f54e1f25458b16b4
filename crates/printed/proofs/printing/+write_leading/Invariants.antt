use Rattle.std.proofs.Common.{length}
use Rattle.printed.proofs.printing.+write_leading.Given as goal

abbrev pub decreases-write_leading : goal.decreases-write_leading
decreases-write_leading l = length l.columns.now
