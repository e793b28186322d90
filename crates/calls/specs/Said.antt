-- What is said of how a program ended. Cited by `src/lib.rt`. Assumes nothing.
use Rattle.std.specs.Prelude.{ℕ, List, [], ◌∷◌}
use Prim.Native.Char.{code}
use Prim.Native.String.{String, [] as none, ◌∷◌ as ◌before◌}
use Rattle.calls.specs.declared.Ending.{Ending}
use Rattle.calls.specs.declared.Ending.TheVariants.{Whole, Unread, Unwritten, Closed}

-- the octets of a text
unfoldable pub octets_of_text : String → List ℕ
octets_of_text none = []
octets_of_text (character before rest) = code character ∷ octets_of_text rest

-- one line where not all of the log was answered; nothing where all was, nor where nobody reads the answers any more
unfoldable pub said_of : Ending → List ℕ
said_of Whole = []
said_of Unread = octets_of_text "the log could not be read to its end\n"
said_of Unwritten = octets_of_text "not all of the answers could be written\n"
said_of Closed = []
