-- What marks promise, of the calls over C: it holds of any calls that read. Assumes nothing.
use Rattle.marks.specs.Returns.{Returns}
use Rattle.marks.proofs.ReturnLaws.{returns_for}
use Rattle.ffi_marks.specs.Calls.{exported}
use Rattle.ffi_marks.specs.Marks.{words}

pub words_return : Returns words exported
words_return = returns_for words exported
