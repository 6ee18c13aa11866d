-- `uptime_page::push_lines` meets its contract: what is left, pushed, makes the whole.
use Rattle.std.proofs.Common.{◌≡◌, take}
use Rattle.std.specs.Slice.Iter.{chunks_exact_rest, chunks_exact_size}
use Rattle.verdict_line.specs.Putting.{pushed_all}
use Rattle.uptime_page.specs.Printing.{most_bytes}
use Rattle.uptime_page.specs.Words.{word_parts}
use Rattle.uptime_page.proofs.push_lines.Given as goal

abbrev pub invariant-loop-pair : goal.invariant-loop-pair
invariant-loop-pair l =
    (chunks_exact_size l.pair-iterator ≡ 2)
    × (pushed_all most_bytes (take l.page.count l.page.bytes) (word_parts (chunks_exact_rest l.pair-iterator))
    ≡ pushed_all most_bytes (take l.initial.page.count l.initial.page.bytes) (word_parts l.words))
