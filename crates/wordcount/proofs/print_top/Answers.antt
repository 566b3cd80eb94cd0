use Rattle.std.proofs.Common.{List, ℕ, map, refl, subst}
use Rattle.std.proofs.KnownBytes.{Appends-kept}
use Rattle.std.proofs.lemmas.List.Sorted.{IsPermutation-map}
use Rattle.std.specs.BinaryHeap.{heap_items}
use Rattle.std.specs.Io.KnownBytes.{Appends}
use Rattle.wordcount.specs.Counted.{lines_of, word_in}
use Rattle.wordcount.specs.Tops.{words_in}
use Rattle.wordcount.proofs.print_top.Goals as goal

pub returns : goal.returns
returns g c =
    let items = c.into_first.result.items in
    let before = g.W.Write.contents c.args.out.now in
    let written = g.W.Write.contents c.write_words.new.out in
    let lines = subst (λ words. Appends before written (lines_of (map word_in words))) c.as_slice.ensures.value c.in_ok-write_words.ensures in
    record {
      printed = (
        map word_in items,
        record {
          kept = words_in c.in_ok-top.top.kept;
          are_counted = c.in_ok-top.ensures.counted;
          printed = items;
          words_are = refl;
          same = IsPermutation-map word_in (heap_items c.in_ok-top.top.kept) items c.into_first.ensures.same;
          sorted = c.into_first.ensures.sorted;
        },
        Appends-kept before written (g.W.Write.contents c.flush.new.self) (lines_of (map word_in items)) lines c.flush.ensures.bytes,
      );
    }
