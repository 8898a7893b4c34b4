-- Worked documents.
use Rattle.std.specs.Prelude.{ℕ, List, [], ◌∷◌, ◌++◌, replicate, codes}
use Rattle.ct_words.specs.Entry.{unrestricted}
use Rattle.ct_kind.specs.declared.evidence.Evidence.{Evidence}
use Rattle.ct_kind.specs.declared.evidence.Evidence.TheVariants.{Words}
use Rattle.ct_files.specs.Document.{DocumentValue}

-- a document of kind words, with these texts at n, d and words, and more after it
abbrev pub words_document : List ℕ → List ℕ → List ℕ → List ℕ → List ℕ
words_document n d words more = codes "kind = \"words\"\nn = " ++ n ++ codes "\nd = " ++ d ++ codes "\nwords = " ++ words ++ codes "\n" ++ more

-- a document of kind cosets, with these texts at n, d, basis and representatives, and more after it
abbrev pub cosets_document : List ℕ → List ℕ → List ℕ → List ℕ → List ℕ → List ℕ
cosets_document n d basis representatives more =
    codes "kind = 'cosets'\nn = " ++ n ++ codes "\nd = " ++ d ++ codes "\nbasis = " ++ basis ++ codes "\nrepresentatives = " ++ representatives
    ++ codes "\n" ++ more

-- two words of length 10, stated for distance 6
abbrev pub two_words : List ℕ
two_words = codes "kind = \"words\"\nn = 10\nd = 6\nwords = [\"0000000000\", \"1111100000\"]\n"

-- what it states: the words 0 and 2^9 + 2^8 + 2^7 + 2^6 + 2^5
abbrev pub two_words_evidence : Evidence
two_words_evidence = Words (unrestricted 10 6) (0 ∷ 992 ∷ [])

-- a document of kind build, with these texts at n, d, op and part, and more after it
abbrev pub build_document : List ℕ → List ℕ → List ℕ → List ℕ → List ℕ → List ℕ
build_document n d op part more =
    codes "kind = 'build'\nn = " ++ n ++ codes "\nd = " ++ d ++ codes "\nop = " ++ op ++ codes "\npart = " ++ part ++ codes "\n" ++ more

-- a document of kind words, of one word, that says no format
abbrev pub one_word : List ℕ
one_word = codes "kind = 'words'\nn = 1\nd = 3\nwords = ['1']\n"

-- the same of format 2, with this text at cites
abbrev pub cited_word : List ℕ → List ℕ
cited_word cites = one_word ++ codes "format = 2\ncites = " ++ cites ++ codes "\n"

-- what it states, with these cites
abbrev pub cited_one : List (List ℕ) → DocumentValue
cited_one cites = record { evidence = Words (unrestricted 1 3) (1 ∷ []); cites = cites }

-- so many letters a between apostrophes (39)
abbrev pub quoted : ℕ → List ℕ
quoted count = 39 ∷ replicate count 97 ++ 39 ∷ []
