use Rattle.std.proofs.Common.{◌≡◌, ◌∙◌, ℕ, List, ◌++◌, length, take, drop, sym, ap, subst, arith}
use Rattle.std.specs.Io.KnownBytes.{Consumes}
use Rattle.std.proofs.lemmas.List.{length-append, length-drop, take_at}
use Rattle.command_support.specs.Heads.{bytes_read}
use Rattle.command_support.proofs.Lemmas.Heads.{length-bytes_read, read-end, read-more}
use Rattle.command_support.proofs.files.watched.WatchedRead.read.Goals as goal

pub returns-in-Ok-clause-bytes : goal.returns-in-Ok-clause-bytes
returns-in-Ok-clause-bytes g c =
    let shape = c.args.self.now.shape in
    let at : ℕ = c.args.self.now.front.count in
    let n : ℕ = c.in-Ok.n in
    let file : List ℕ = c.read.new.buf in
    let piece : List ℕ = c.reshape.new.piece in
    let long : length piece ≡ n = ap length c.reshape.ensures ∙ length-bytes_read shape at (take n file) ∙ sym c.in-Ok.ensures.bound.1 in
    let front : take n (piece ++ drop n file) ≡ bytes_read shape at (take n file) = take_at piece (drop n file) n long ∙ c.reshape.ensures in (
      subst (Consumes _ _) (sym front) (read-more shape at c.keep.new.self.count _ _ (take n file) c.in-Ok.ensures.bytes.0 c.keep.ensures),
      λ none some.
          let whole = length-append piece (drop n file) in
          let rest = length-drop n file in
          read-end shape c.keep.new.self.count _ (c.in-Ok.ensures.bytes.1 none (omega (arith, long, whole, rest))),
    )
